use Rattle.follow_core.proofs.MissingLemmas.{stays_first}
use Rattle.follow_core.proofs.laws.first_files_stay.Goals as goal

pub returns : goal.returns
returns c = stays_first
