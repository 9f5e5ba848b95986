use Rattle.std.proofs.Common.{◌≡◌, length}
use Rattle.words_core.{specs.Called.last_part, proofs.CalledLemmas.part_among}
use Rattle.words_core.proofs.args.last_part.Given as goal

abbrev pub invariant-loop-left : goal.invariant-loop-left
invariant-loop-left l = part_among l.part l.left ≡ last_part l.path

abbrev pub decreases-loop-left : goal.decreases-loop-left
decreases-loop-left l = length l.left
