use Rattle.std.proofs.lemmas.Result.{IfOk-weaker}
use Rattle.run_tests.{specs.inner.Calls.run_of}
use Rattle.run_tests.proofs.law_calls.told_why.Goals as goal

pub returns : goal.returns
returns c asked read none =
    IfOk-weaker c.ran.result _ _
    (λ status (rest, ran) failed.
    let one = run_of _ _ c.args.inputs.now rest c.ran.new.outs status in
    (rest, c.faults_leave_a_beginning.ensures.says one asked ran failed))
    (c.ran.ensures asked read none)
