use Rattle.follow_core.proofs.RunLemmas.{at_look_are, found_are}
use Rattle.follow_core.proofs.laws.snapshots_decide.Goals as goal

pub returns : goal.returns
returns c = record { looks = found_are; stopped = λ ways names looks look shares. at_look_are }
