use Rattle.std.proofs.{Common.{inl, inr, refl, arith}, lemmas.Result.IfOk-weaker}
use Rattle.words_core.specs.declared.settings.Settings.TheVariants.{Head}
use Rattle.run_tests.{specs.inner.Calls.{in_pipe, run_of}}
use Rattle.run_tests.proofs.law_calls.status_of.Goals as goal

pub returns : goal.returns
returns c asked read =
    IfOk-weaker c.ran_over.result _ _
    (λ status (rest, ran) broken.
    let one = run_of _ _ (in_pipe c.args.bytes.now) rest c.ran_over.new.outs status in
    elim (c.faults_leave_a_beginning.ensures.broken one (Head asked) 0 ran (λ at. omega (arith, at)) broken) [
      | inl failed ↦ inl failed.0
      | inr silent ↦ inr (silent.0.0, silent.0.2)
    ])
    (c.ran_over.ensures (Head asked) read refl)
