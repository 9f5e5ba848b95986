use Rattle.std.proofs.{Common.arith, lemmas.Grind.common_steps}
use Rattle.scan_core.proofs.hops.add_hop.Goals as goal

pub returns-clause-sound : goal.returns-clause-sound
returns-clause-sound c = grind (arith, common_steps)
