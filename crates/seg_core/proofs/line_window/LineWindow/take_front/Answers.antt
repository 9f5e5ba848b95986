use Rattle.std.proofs.{lemmas.Grind.common_steps, Common.{arith, drop-drop, length-append, length-drop}}
use Rattle.seg_core.proofs.Taken.{taken_more}
use Rattle.seg_core.proofs.line_window.LineWindow.take_front.Goals as goal

pub loop-at-preserved : goal.loop-at-preserved
loop-at-preserved c = grind (arith, common_steps, length-append, length-drop, drop-drop, taken_more)
