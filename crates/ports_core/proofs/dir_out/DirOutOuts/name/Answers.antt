use Rattle.std.proofs.{Common.arith, lemmas.Grind.common_steps}
use Rattle.ports_core.proofs.dir_out.DirOutOuts.name.Goals as goal

pub returns-in-None : goal.returns-in-None
returns-in-None g c = grind (arith, common_steps)
