use Rattle.std.proofs.{Common.arith, lemmas.Grind.common_steps}
use Rattle.words_core.proofs.spelled.texts_of.Goals as goal

pub loop-operand-preserved : goal.loop-operand-preserved
loop-operand-preserved c = grind (arith, common_steps)

pub returns-clause-ok : goal.returns-clause-ok
returns-clause-ok c = grind (arith, common_steps)
