use Rattle.std.proofs.{Common.arith, lemmas.Grind.common_steps}
use Rattle.bre_core.proofs.member.element_at.Goals as goal

pub returns-then-byte-eq91-clause-exact : goal.returns-then-byte-eq91-clause-exact
returns-then-byte-eq91-clause-exact c = grind (arith, common_steps)

pub returns-else-byte-eq91-clause-exact : goal.returns-else-byte-eq91-clause-exact
returns-else-byte-eq91-clause-exact c = grind (arith, common_steps)
