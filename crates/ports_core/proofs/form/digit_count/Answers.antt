use Rattle.std.proofs.{Common.arith}
use Rattle.ports_core.proofs.FormLemmas.{counted}
use Rattle.ports_core.proofs.form.digit_count.Goals as goal

pub returns-in-Some-clause-is : goal.returns-in-Some-clause-is
returns-in-Some-clause-is c = grind (arith, counted)
