use Rattle.std.proofs.{lemmas.Grind.common_steps, Common.arith}
use Rattle.words_core.proofs.FormatLemmas.{after_letter_of_precision, after_slice, letter_clipped, some_too}
use Rattle.words_core.proofs.format.read_width.Goals as goal

pub returns-clause-value : goal.returns-clause-value
returns-clause-value c = grind (arith, common_steps, letter_clipped)

pub returns-clause-after : goal.returns-clause-after
returns-clause-after c = some_too c.read_letter.result (λ read is.
    after_slice c.leading_number-width.result.1 c.args.text.now (after_letter_of_precision _
    (rw c.read_precision-precision.ensures.rest at is))) c.read_letter.ensures.after
