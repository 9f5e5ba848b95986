use Rattle.follow_core.proofs.LookGivesLemmas.{calls_find}
use Rattle.follow_core.proofs.laws.calls_find_the_share.Goals as goal

pub returns : goal.returns
returns c = calls_find
