use Rattle.std.proofs.{lemmas.Grind.common_steps, Common.arith}
use Rattle.follow_core.proofs.RunLemmas.{failed-append, messages-append, shares_more, text-append}
use Rattle.follow_core.proofs.laws.one_look_more.Goals as goal

pub returns : goal.returns
returns c ways headers names looks look = grind (arith, common_steps, shares_more, text-append, messages-append, failed-append)
