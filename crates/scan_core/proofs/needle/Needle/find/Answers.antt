use Rattle.std.proofs.Common.{arith}
use Rattle.scan_core.proofs.Needles.{lacks_byte, lacks_text}
use Rattle.scan_core.proofs.needle.Needle.find.Goals as goal

pub returns-in-Byte-clause-lacks : goal.returns-in-Byte-clause-lacks
returns-in-Byte-clause-lacks c = rw c.in-Byte.is (lacks_byte _ c.find.ensures.none)

pub returns-in-Some-clause-lacks : goal.returns-in-Some-clause-lacks
returns-in-Some-clause-lacks c = rw c.in-Text.is (lacks_text c.in-Some.ensures.0.before)

pub returns-in-None-clause-lacks : goal.returns-in-None-clause-lacks
returns-in-None-clause-lacks c = rw c.in-Text.is (lacks_text (λ k low high. c.in-None.ensures k low (omega arith)))
