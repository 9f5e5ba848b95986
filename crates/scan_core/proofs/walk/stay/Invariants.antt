use Rattle.std.proofs.Common.{◌≡◌, ◌≤◌, ◌<◌, ◌+◌, ◌*◌, ℕ, slice_index, slice_index_or}
use Rattle.scan_core.proofs.walk.stay.Given as goal

abbrev pub invariant-loop-place : goal.invariant-loop-place
invariant-loop-place l = (at : ℕ) → l.from ≤ at → at < l.place → slice_index_or l.rows (l.state * 256 + slice_index l.line at) 0 ≡ l.state
