use Rattle.run_core.specs.Input.{inputs_at}
use Rattle.promises_core.proofs.SameLemmas.{all_alike}
use Rattle.tools_core.specs.Outcome.{names_read}
use Rattle.run_tests.{specs.inner.Calls.{in_pipe, run_of}}
use Rattle.run_tests.proofs.law_tests.both.Goals as goal

pub returns : goal.returns
returns c asked read none strict =
    let (rest, does) = rw c.in-Some.is at (c.in_ok-one.ensures asked read none strict) in
    let (rest_too, does_too) = rw c.in-Some-2.is at (c.in_ok-other.ensures asked read none strict) in
    let one = run_of _ _ (in_pipe c.args.bytes.now) rest c.in-Some.one 0 in
    let other = run_of _ _ (in_pipe c.args.bytes.now) rest_too c.in-Some-2.other 0 in
    c.cutting_changes_nothing.ensures.same one other asked does does_too (all_alike asked (inputs_at one.world (names_read one.calling one.words)))
