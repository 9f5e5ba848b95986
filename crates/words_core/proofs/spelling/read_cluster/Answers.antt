use Rattle.std.proofs.{Common.arith, lemmas.Grind.common_steps}
use Rattle.words_core.proofs.spelling.read_cluster.Goals as goal

pub returns-in-Some-Value : goal.returns-in-Some-Value
returns-in-Some-Value c = grind (arith, common_steps)

pub loop-left-preserved : goal.loop-left-preserved
loop-left-preserved c = grind (arith, common_steps)

pub returns : goal.returns
returns c = grind (arith, common_steps)
