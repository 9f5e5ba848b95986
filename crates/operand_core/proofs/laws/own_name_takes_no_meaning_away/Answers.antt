use Rattle.operand_core.proofs.SpellingLemmas.{asks_alike}
use Rattle.operand_core.proofs.laws.own_name_takes_no_meaning_away.Goals as goal

pub returns : goal.returns
returns c = asks_alike
