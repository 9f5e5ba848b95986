use Rattle.std.proofs.{Common.{refl, sym, ◌∙◌}, lemmas.Bool.false≢true}
use Rattle.run_tests.proofs.law_tests.left_over.Goals as goal

pub returns : goal.returns
returns c asked read none strict =
    let (rest, ran) = rw c.if-branch-ne0.false at (c.in_ok-ran.ensures asked read none) in
    (rest, record { ran = ran; well = refl; unforgiven = λ forgives. absurd (false≢true (sym strict ∙ forgives)) })
