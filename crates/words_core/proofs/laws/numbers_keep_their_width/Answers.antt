use Rattle.words_core.proofs.LimitLemmas.{never_widen}
use Rattle.words_core.proofs.laws.numbers_keep_their_width.Goals as goal

pub returns : goal.returns
returns c = never_widen
