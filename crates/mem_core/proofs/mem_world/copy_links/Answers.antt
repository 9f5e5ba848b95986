use Rattle.std.proofs.{Common.arith, lemmas.Grind.common_steps}
use Rattle.mem_core.proofs.mem_world.copy_links.Goals as goal

pub loop-link-preserved : goal.loop-link-preserved
loop-link-preserved c = grind (arith, common_steps)

pub returns : goal.returns
returns c = grind (arith, common_steps)
