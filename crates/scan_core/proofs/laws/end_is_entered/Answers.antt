use Rattle.scan_core.proofs.Codes.{contained}
use Rattle.scan_core.proofs.laws.end_is_entered.Goals as goal

pub returns : goal.returns
returns c = contained
