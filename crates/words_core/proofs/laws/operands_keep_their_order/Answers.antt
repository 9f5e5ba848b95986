use Rattle.words_core.proofs.LimitLemmas.{gives}
use Rattle.words_core.proofs.laws.operands_keep_their_order.Goals as goal

pub returns : goal.returns
returns c start words given is = (gives start.rows words start.place start.state given is).1
