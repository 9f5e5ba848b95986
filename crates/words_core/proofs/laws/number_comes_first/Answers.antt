use Rattle.std.proofs.Common.{refl}
use Rattle.words_core.specs.Spelling.{foremost}
use Rattle.words_core.proofs.laws.number_comes_first.Goals as goal

pub returns-clause-letters : goal.returns-clause-letters
unfolding foremost
returns-clause-letters c tool text no_number is words place = rw (no_number, is) refl

pub returns-clause-start : goal.returns-clause-start
unfolding foremost
returns-clause-start c tool text is words place = rw is refl
