use Rattle.std.proofs.Common.{sym, inl, inr}
use Rattle.seg_core.proofs.{
  Counts.{digits_of-none, digits_of-ok, digits_of-too_large},
  digits.read_digits.Goals.{then-end-eq0-via-then-end-eq0, then-end-eq0-via-else-end-eq0+then-end-text},
}
use Rattle.seg_core.proofs.digits.read_digits.Goals as goal

pub returns-then-end-eq0 : goal.returns-then-end-eq0
returns-then-end-eq0 c =
    let number = c.leading_number-value in
    sym (digits_of-none c.args.text.now number.result.1 number.ensures.digits (elim c.then-end-eq0.branch [
      | then-end-eq0-via-then-end-eq0 w ↦ inl w.if-end-eq0.true
      | then-end-eq0-via-else-end-eq0+then-end-text w ↦ inr w.if-end-text.true
    ]))

pub returns-then-value-le-GREATEST : goal.returns-then-value-le-GREATEST
returns-then-value-le-GREATEST c =
    let number = c.leading_number-value in
    sym (digits_of-ok c.args.text.now number.result.1 number.ensures.digits c.if-end-eq0.false c.if-end-text.false number.ensures.value c.if-value-le-GREATEST.true)

pub returns-else-value-le-GREATEST : goal.returns-else-value-le-GREATEST
returns-else-value-le-GREATEST c =
    let number = c.leading_number-value in
    sym (digits_of-too_large c.args.text.now number.result.1 number.ensures.digits c.if-end-eq0.false c.if-end-text.false number.ensures.value c.if-value-le-GREATEST.false)
