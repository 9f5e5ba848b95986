use Rattle.std.proofs.{lemmas.Grind.common_steps, Common.arith}
use Rattle.seg_core.proofs.Delimiters.{count_stretch, delimiters-take-le, delimiters-le-length}
use Rattle.seg_core.proofs.line.skip.Goals as goal

pub overflow_add-more : goal.overflow_add-more
overflow_add-more c = grind (arith, common_steps, count_stretch, delimiters-take-le, delimiters-le-length)

pub loop-at-preserved : goal.loop-at-preserved
loop-at-preserved c = grind (arith, common_steps, count_stretch)
