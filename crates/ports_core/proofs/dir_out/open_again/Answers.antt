use Rattle.std.proofs.{Common.{arith, rules}, lemmas.Grind.common_steps}
use Rattle.ports_core.proofs.dir_out.open_again.Goals as goal

pub returns-then-holds_file : goal.returns-then-holds_file
returns-then-holds_file g c = search rules

pub take_back-requires : goal.take_back-requires
take_back-requires g c = grind (arith, common_steps)

pub returns-in-Ok : goal.returns-in-Ok
returns-in-Ok g c = grind (arith, common_steps)
