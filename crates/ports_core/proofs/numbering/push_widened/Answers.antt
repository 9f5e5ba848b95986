use Rattle.std.proofs.{lemmas.{Result.IfOk-weaker, Grind.common_steps}, Common.arith}
use Rattle.ports_core.proofs.numbering.push_widened.Goals as goal
use Rattle.ports_core.proofs.CounterLemmas.{in_block_at}

pub returns : goal.returns
returns c = IfOk-weaker c.push_number.result _ _ (λ done is. grind (arith, common_steps, in_block_at)) c.push_number.ensures
