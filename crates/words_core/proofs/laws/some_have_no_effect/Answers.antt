use Rattle.words_core.proofs.ChoiceLemmas.{no_effect}
use Rattle.words_core.proofs.laws.some_have_no_effect.Goals as goal

pub returns : goal.returns
returns c = no_effect
