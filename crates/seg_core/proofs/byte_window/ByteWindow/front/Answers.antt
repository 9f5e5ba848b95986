use Rattle.std.proofs.{Common.arith, lemmas.Grind.common_steps}
use Rattle.seg_core.proofs.byte_window.ByteWindow.front.Goals as goal

pub returns-then-is_empty-clause-some : goal.returns-then-is_empty-clause-some
returns-then-is_empty-clause-some c = grind (arith, common_steps)
