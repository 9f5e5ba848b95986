use Rattle.std.proofs.Common.{◌≡◌, length}
use Rattle.words_core.specs.Format.{after_text}
use Rattle.words_core.proofs.format.after_text.Given as goal

abbrev pub invariant-loop-more : goal.invariant-loop-more
invariant-loop-more l = after_text l.rest ≡ after_text l.text

abbrev pub decreases-loop-more : goal.decreases-loop-more
decreases-loop-more l = length l.rest
