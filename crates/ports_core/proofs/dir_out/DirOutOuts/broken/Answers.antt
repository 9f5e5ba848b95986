use Rattle.std.proofs.{Common.{arith, rules}, lemmas.Grind.common_steps}
use Rattle.ports_core.proofs.dir_out.DirOutOuts.broken.Goals as goal

pub overflow_sub-result-in-None : goal.overflow_sub-result-in-None
overflow_sub-result-in-None g c = search rules

pub returns-in-None : goal.returns-in-None
returns-in-None g c = grind (arith, common_steps)
