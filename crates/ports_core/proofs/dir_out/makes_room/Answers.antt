use Rattle.std.proofs.{Common.{arith, rules}, lemmas.Grind.common_steps}
use Rattle.ports_core.proofs.dir_out.makes_room.Goals as goal

pub index_mut-requires : goal.index_mut-requires
index_mut-requires g c = search rules

pub returns : goal.returns
returns g c = grind (arith, common_steps)
