use Rattle.std.proofs.Common.{arith}
use Rattle.std.proofs.lemmas.Grind.{common_steps}
use Rattle.std.proofs.Common.{rules}
use Rattle.tee_core.proofs.ChangeLemmas.{not_closed, closed_whole, closed_short}
use Rattle.tee_core.proofs.tee.close_file.Goals as goal

pub returns-then-broken : goal.returns-then-broken
returns-then-broken g c = grind (arith, common_steps, not_closed)

pub returns-in-Ok : goal.returns-in-Ok
returns-in-Ok g c = record { turned = closed_whole c.requires.usable (cc) c.in-Ok.ensures.ok; few = search rules }

pub returns-in-Err : goal.returns-in-Err
returns-in-Err g c = record { turned = closed_short c.requires.usable (cc) c.in-Err.ensures.err.1; few = search rules }
