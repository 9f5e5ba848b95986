use Rattle.std.proofs.Common.{◌≡◌, ℕ, ◌<◌, [], slice_index_or}
use Rattle.split_core.proofs.deal.clear.Given as goal

abbrev pub invariant-loop-one : goal.invariant-loop-one
invariant-loop-one l = (file : ℕ) → file < l.one-index → slice_index_or l.one-items file [] ≡ []
