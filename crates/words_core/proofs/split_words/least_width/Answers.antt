use Rattle.std.proofs.{lemmas.Grind.common_steps, Common.{arith, refl}}
use Rattle.words_core.{specs.SplitWords.least_width, proofs.WidthLemmas.least_next}
use Rattle.words_core.proofs.split_words.least_width.Goals as goal

pub loop-width-init : goal.loop-width-init
unfolding least_width
loop-width-init c = record { some = omega arith; few = omega arith; left = refl; least = λ width some few. absurd (omega arith) }

pub loop-width-preserved : goal.loop-width-preserved
loop-width-preserved c = grind (arith, common_steps, least_next)
