use Rattle.std.proofs.Common.{refl}
use Rattle.run_core.specs.Input.{inputs_at}
use Rattle.promises_core.proofs.SameLemmas.{all_alike}
use Rattle.tools_core.specs.Outcome.{names_read}
use Rattle.run_tests.{specs.inner.Calls.{in_pipe, run_of}, proofs.CallLemmas.alike_ends}
use Rattle.run_tests.proofs.law_calls.left_twice.Goals as goal

pub returns : goal.returns
returns c asked read none =
    let (rest, ran) = c.in_ok-ran_over.ensures asked read none in
    let (rest_too, ran_too) = c.in_ok-ran_over-2.ensures asked read none in
    let one = run_of _ _ (in_pipe c.args.bytes.now) rest c.ran_over.new.outs _ in
    let other = run_of _ _ (in_pipe c.args.bytes.now) rest_too c.ran_over-2.new.outs _ in (
      one,
      other,
      refl,
      refl,
      alike_ends c.cutting_changes_nothing.ensures.ended c.cutting_changes_nothing.ensures.alike one other asked ran ran_too
          (all_alike asked (inputs_at one.world (names_read one.calling one.words))),
    )
