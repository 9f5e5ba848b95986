use Rattle.std.proofs.{Common.arith, lemmas.Grind.common_steps}
use Rattle.follow_core.{proofs.LookedLemmas.added_begins}
use Rattle.follow_core.proofs.follow.Follow.begin.Goals as goal

pub returns-in_ok-first-in-Fresh-clause-begins : goal.returns-in_ok-first-in-Fresh-clause-begins
returns-in_ok-first-in-Fresh-clause-begins g c = added_begins (grind (arith, common_steps, c.in_ok-first-in-Fresh.ensures.first.0))
