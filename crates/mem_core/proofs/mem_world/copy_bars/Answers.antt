use Rattle.std.proofs.{Common.arith, lemmas.Grind.common_steps}
use Rattle.mem_core.proofs.mem_world.copy_bars.Goals as goal

pub loop-bar-preserved : goal.loop-bar-preserved
loop-bar-preserved c = grind (arith, common_steps)

pub returns : goal.returns
returns c = grind (arith, common_steps)
