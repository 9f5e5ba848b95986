use Rattle.promises_core.proofs.{
  BesidePromises.one_completes,
  PromiseLemmas.begins_each,
  StoppedPromises.{is_broken, says_why},
}
use Rattle.promises_core.proofs.promises.faults_leave_a_beginning.Goals as goal

pub returns : goal.returns
returns c = record { begins = begins_each; beside = one_completes; says = says_why; broken = is_broken }
