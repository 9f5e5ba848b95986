use Rattle.std.proofs.Common.{arith}
use Rattle.std.proofs.lemmas.Grind.{common_steps}
use Rattle.tee_core.proofs.StartLemmas.{opened_one, in_vain}
use Rattle.tee_core.proofs.tee.open_file.Goals as goal

pub returns-in-Ok-clause-ok : goal.returns-in-Ok-clause-ok
returns-in-Ok-clause-ok g c = (c.in-Ok.ensures.ok.0, opened_one c.in-Ok.ensures.ok.1)

pub returns-in-Err-Open-clause-ok : goal.returns-in-Err-Open-clause-ok
returns-in-Err-Open-clause-ok g c = grind (arith, common_steps, in_vain)
