use Rattle.std.proofs.{lemmas.Grind.common_steps, Common.{arith, length-drop}}
use Rattle.seg_core.proofs.{Delimiters.delimiters-le-length, BackLines.stretch_back}
use Rattle.seg_core.proofs.line_back.skip_back.Goals as goal

pub overflow_add-more : goal.overflow_add-more
overflow_add-more c = grind (arith, common_steps, stretch_back, delimiters-le-length, length-drop)

pub loop-end-preserved : goal.loop-end-preserved
loop-end-preserved c = grind (arith, common_steps, stretch_back)
