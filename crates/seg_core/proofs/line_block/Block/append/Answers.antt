use Rattle.std.proofs.{Common.arith, lemmas.Grind.common_steps}
use Rattle.seg_core.proofs.line_block.Block.append.Goals as goal

pub overflow_add-self : goal.overflow_add-self
overflow_add-self c = grind (arith, common_steps)
