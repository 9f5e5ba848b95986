use Rattle.std.proofs.{lemmas.Grind.common_steps, Common.arith}
use Rattle.seg_core.proofs.Delimiters.{delimiters-append, delimiters-le-length}
use Rattle.seg_core.proofs.line.count_delimiters.Goals as goal

pub overflow_add-count : goal.overflow_add-count
overflow_add-count c = grind (arith, common_steps, delimiters-append, delimiters-le-length)

pub loop-left-preserved : goal.loop-left-preserved
loop-left-preserved c = grind (arith, common_steps, delimiters-append)

pub overflow_add-result : goal.overflow_add-result
overflow_add-result c = record { fits = omega (arith, delimiters-le-length c.args.delim c.args.bytes.now) }
