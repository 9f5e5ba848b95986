use Rattle.std.proofs.Common.{◌≡◌, ◌++◌, length}
use Rattle.operand_core.specs.Word.{unescaped}
use Rattle.operand_core.proofs.target.unescape.Given as goal

abbrev pub invariant-loop-left : goal.invariant-loop-left
invariant-loop-left l = unescaped l.delimiter l.text ≡ l.plain.items ++ unescaped l.delimiter l.left

abbrev pub decreases-loop-left : goal.decreases-loop-left
decreases-loop-left l = length l.left
