use Rattle.std.proofs.{Common.arith, lemmas.Grind.common_steps}
use Rattle.ends_core.proofs.EndsLemmas.{written_used, rest_left}
use Rattle.ends_core.proofs.laws.head_uses_what_it_writes.Goals as goal

pub returns : goal.returns
returns c = grind (arith, common_steps, written_used, rest_left)
