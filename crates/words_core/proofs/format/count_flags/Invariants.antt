use Rattle.std.proofs.Common.{◌≡◌, ◌<◌, ℕ, true, get_or}
use Rattle.words_core.specs.Format.{is_flag}
use Rattle.words_core.proofs.format.count_flags.Given as goal

abbrev pub invariant-loop-place : goal.invariant-loop-place
invariant-loop-place l = (k : ℕ) → k < l.place → is_flag (get_or l.text k 0) ≡ true
