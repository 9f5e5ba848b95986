use Rattle.bre_core.proofs.Spelled.{interval_read}
use Rattle.bre_core.proofs.laws.intervals_are_digits.Goals as goal

pub returns : goal.returns
returns c = interval_read
