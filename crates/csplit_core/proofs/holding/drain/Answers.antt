use Rattle.std.proofs.{Common.arith, lemmas.Grind.common_steps}
use Rattle.csplit_core.proofs.holding.drain.Goals as goal

pub returns-clause-ok : goal.returns-clause-ok
returns-clause-ok c = grind (arith, common_steps)

pub returns-clause-window : goal.returns-clause-window
returns-clause-window c = grind (arith, common_steps)
