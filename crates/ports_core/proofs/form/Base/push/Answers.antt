use Rattle.std.proofs.{lemmas.{Result.IfOk-weaker}, Common.arith}
use Rattle.ports_core.proofs.DecimalLemmas.{fills}
use Rattle.ports_core.proofs.form.Base.push.Goals as goal

pub returns-in-Decimal : goal.returns-in-Decimal
returns-in-Decimal c = grind (arith, IfOk-weaker, fills)
