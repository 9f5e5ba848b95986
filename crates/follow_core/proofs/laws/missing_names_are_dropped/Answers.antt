use Rattle.follow_core.proofs.MissingLemmas.{names_go}
use Rattle.follow_core.proofs.laws.missing_names_are_dropped.Goals as goal

pub returns : goal.returns
returns c = names_go
