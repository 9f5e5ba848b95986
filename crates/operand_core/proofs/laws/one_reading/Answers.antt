use Rattle.operand_core.proofs.ReadingLemmas.{asks_once, reads_or_fails}
use Rattle.operand_core.proofs.laws.one_reading.Goals as goal

pub returns : goal.returns
returns c = record { only = asks_once; either = reads_or_fails }
