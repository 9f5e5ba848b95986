use Rattle.std.proofs.{Common.arith, lemmas.Grind.common_steps}
use Rattle.follow_core.proofs.name.add_all.Goals as goal

pub loop-left-init : goal.loop-left-init
loop-left-init g c = grind (arith, common_steps)

pub loop-left-preserved : goal.loop-left-preserved
loop-left-preserved g c = grind (arith, common_steps)

pub returns-clause-first : goal.returns-clause-first
returns-clause-first g c = grind (arith, common_steps)
