use Rattle.follow_core.proofs.LookGivesLemmas.{names_stay}
use Rattle.follow_core.proofs.laws.forgiven_names_stay.Goals as goal

pub returns : goal.returns
returns c = names_stay
