use Rattle.std.proofs.Common.{◌≡◌, ◌<◌, ◌≤◌, ℕ, slice_index_or}
use Rattle.scan_core.proofs.shift_table.is_complete.Given as goal

abbrev pub invariant-loop-at : goal.invariant-loop-at
invariant-loop-at l = (place : ℕ) → place < l.at → 65534 ≤ slice_index_or l.rows place 0 → slice_index_or l.rows place 0 ≡ 65535
