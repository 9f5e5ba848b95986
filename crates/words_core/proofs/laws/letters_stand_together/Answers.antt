use Rattle.words_core.proofs.ValueLemmas.{long_alone}
use Rattle.words_core.proofs.laws.letters_stand_together.Goals as goal

pub returns-clause-long : goal.returns-clause-long
returns-clause-long c = long_alone
