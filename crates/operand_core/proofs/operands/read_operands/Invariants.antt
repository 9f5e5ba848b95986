use Rattle.std.proofs.Common.{length}
use Rattle.operand_core.proofs.ReadingLemmas.{Reads}
use Rattle.operand_core.proofs.operands.read_operands.Given as goal

abbrev pub invariant-loop-left : goal.invariant-loop-left
invariant-loop-left l = Reads l.calling l.words l.list.items l.least l.left

abbrev pub decreases-loop-left : goal.decreases-loop-left
decreases-loop-left l = length l.left
