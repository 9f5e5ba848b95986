use Rattle.words_core.proofs.LetteredLemmas.{head_letters, tail_letters}
use Rattle.words_core.proofs.laws.letters_take_no_option_away.Goals as goal

pub returns-clause-head : goal.returns-clause-head
returns-clause-head c text place is = head_letters text place is

pub returns-clause-tail : goal.returns-clause-tail
returns-clause-tail c calling text place is = tail_letters calling text place is
