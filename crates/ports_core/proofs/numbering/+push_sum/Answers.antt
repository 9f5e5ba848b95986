use Rattle.std.proofs.{lemmas.{Grind.common_steps, Result.IfOk-weaker}, Common.arith}
use Rattle.ports_core.proofs.CounterLemmas.{front_small, more_digits}
use Rattle.ports_core.proofs.numbering.+push_sum.Goals as goal

pub push_sum-requires : goal.push_sum-requires
push_sum-requires t c = grind (arith, front_small)

pub returns : goal.returns
returns t c = grind (arith, common_steps, IfOk-weaker, more_digits)
