use Rattle.std.proofs.{lemmas.Grind.common_steps, Common.arith}
use Rattle.seg_core.proofs.{Delimiters.{count_more, delimiters-le-length}, BackLines.added, FirstLines.EndsAt_counted}
use Rattle.seg_core.proofs.line.reach_from.Goals as goal

pub returns-then-seen-lines : goal.returns-then-seen-lines
returns-then-seen-lines c = grind (arith, common_steps, added, count_more, EndsAt_counted)

pub loop-i-preserved : goal.loop-i-preserved
loop-i-preserved c = grind (arith, common_steps, added, count_more, delimiters-le-length)
