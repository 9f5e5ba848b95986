use Rattle.std.proofs.{lemmas.{Grind.common_steps, Result.IfOk-weaker}, Common.arith}
use Rattle.ports_core.proofs.CounterLemmas.{front_small, more_digits}
use Rattle.ports_core.proofs.numbering.+push_number.Goals as goal

pub push_number-requires : goal.push_number-requires
push_number-requires t c = grind (arith, front_small)

pub returns : goal.returns
returns t c = grind (arith, common_steps, IfOk-weaker, more_digits)
