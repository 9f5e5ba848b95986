use Rattle.follow_core.proofs.{LookLemmas.{look_goes_on, looks_give_text}, RunLemmas.text_goes_on}
use Rattle.follow_core.proofs.laws.text_goes_on.Goals as goal

pub returns : goal.returns
returns c = record { entries = text_goes_on; look = look_goes_on; looks = looks_give_text }
