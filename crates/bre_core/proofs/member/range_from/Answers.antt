use Rattle.std.proofs.{Common.arith, lemmas.Grind.common_steps}
use Rattle.bre_core.proofs.member.range_from.Goals as goal

pub returns-then-low-high-clause-exact : goal.returns-then-low-high-clause-exact
returns-then-low-high-clause-exact c = grind (arith, common_steps)

pub returns-else-low-high-clause-exact : goal.returns-else-low-high-clause-exact
returns-else-low-high-clause-exact c = grind (arith, common_steps)

pub returns-in-Ok : goal.returns-in-Ok
returns-in-Ok c = grind (arith, common_steps)

pub returns-then-names_no_byte-clause-exact : goal.returns-then-names_no_byte-clause-exact
returns-then-names_no_byte-clause-exact c = grind (arith, common_steps)

pub returns-else-names_no_byte-clause-exact : goal.returns-else-names_no_byte-clause-exact
returns-else-names_no_byte-clause-exact c = grind (arith, common_steps)
