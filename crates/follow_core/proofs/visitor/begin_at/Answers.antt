use Rattle.std.proofs.{Common.arith, lemmas.Grind.common_steps}
use Rattle.follow_core.{proofs.CallGivesLemmas.{gives_none}, specs.Look.sound}
use Rattle.follow_core.proofs.visitor.begin_at.Goals as goal

pub returns-then-len-position-clause-ends : goal.returns-then-len-position-clause-ends
returns-then-len-position-clause-ends g c watched printer = gives_none sound (grind (arith, common_steps))

pub returns-in-Ok-clause-ends : goal.returns-in-Ok-clause-ends
returns-in-Ok-clause-ends g c watched printer = grind (arith, common_steps, c.in-Ok.ensures.ends watched printer)

pub returns-in-Err-clause-ends : goal.returns-in-Err-clause-ends
returns-in-Err-clause-ends g c watched printer = grind (arith, common_steps, c.in-Err.ensures.ends watched printer)
