use Rattle.std.{
  proofs.{lemmas.{Grind.common_steps, List.Sums.prefix_len_is}, Common.{◌<◌, arith, sym, length}},
  specs.Char.is_ascii_digit,
}
use Rattle.seg_core.proofs.Value.{value_of_more, held_step}
use Rattle.seg_core.proofs.digits.leading_number.Goals as goal

pub returns-then-not-is_ascii_digit-clause-digits : goal.returns-then-not-is_ascii_digit-clause-digits
returns-then-not-is_ascii_digit-clause-digits c = grind (arith, common_steps, prefix_len_is)

pub loop-place-preserved : goal.loop-place-preserved
loop-place-preserved c = grind (arith, common_steps, held_step, value_of_more)

pub returns-clause-digits : goal.returns-clause-digits
returns-clause-digits c =
    let text = c.args.text.now in
    sym (prefix_len_is is_ascii_digit text (length text) 0 (omega arith) (λ k h. c.loop-place.invariant.digits k (omega arith)) (λ (h : length text < length text). absurd (omega arith)))
