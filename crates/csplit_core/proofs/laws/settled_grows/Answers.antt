use Rattle.csplit_core.specs.laws.InputLaws.{settled_grows, settled_ends}
use Rattle.csplit_core.proofs.laws.settled_grows.Goals as goal

pub returns : goal.returns
returns c = record { grows = settled_grows; ends = settled_ends }
