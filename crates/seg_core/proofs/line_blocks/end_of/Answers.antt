use Rattle.std.proofs.{lemmas.Grind.common_steps, Common.arith}
use Rattle.seg_core.proofs.LastLines.{begins_first}
use Rattle.seg_core.proofs.line_blocks.end_of.Goals as goal

pub returns-then-after-lines : goal.returns-then-after-lines
returns-then-after-lines c = grind (arith, common_steps, begins_first)
