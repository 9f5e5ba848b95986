use Rattle.promises_core.proofs.{LeftLemmas.leave_alike, PromiseLemmas.leave_same, StoppedPromises.completes_or}
use Rattle.promises_core.proofs.promises.cutting_changes_nothing.Goals as goal

pub returns : goal.returns
returns c = record { same = leave_same; ended = completes_or; alike = leave_alike }
