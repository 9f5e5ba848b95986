use Rattle.std.proofs.{Common.arith, lemmas.Grind.common_steps}
use Rattle.seg_core.proofs.BlockLemmas.{dropped_counts}
use Rattle.seg_core.proofs.line_blocks.drop_within.Goals as goal

pub returns-in-Some-clause-left : goal.returns-in-Some-clause-left
returns-in-Some-clause-left c = grind (arith, common_steps)

pub returns-in-Some-clause-each : goal.returns-in-Some-clause-each
returns-in-Some-clause-each c = grind (arith, common_steps, dropped_counts)
