use Rattle.std.proofs.Common.{refl}
use Rattle.csplit_core.proofs.StageLemmas.{judged_none, judged_next}
use Rattle.csplit_core.proofs.line_cutter.LineCutter.verdict.Goals as goal

pub returns-in_err-operand : goal.returns-in_err-operand
returns-in_err-operand c x judged = judged_none c.in_err-operand.ensures.lookup.0 c.from_residual.ensures judged

pub returns-in-Missed : goal.returns-in-Missed
returns-in-Missed c x judged = judged_next c.in_ok-operand.ensures.lookup.3.0 c.in_ok-operand.ensures.lookup.1 c.in-Missed.is c.verdict_of_miss.ensures judged

pub returns-in-Above : goal.returns-in-Above
returns-in-Above c x judged = judged_next c.in_ok-operand.ensures.lookup.3.0 c.in_ok-operand.ensures.lookup.1 c.in-Above.is (c.verdict_of_range.ensures (record { matched = 0; line = 0 })) judged

pub returns-in-Below : goal.returns-in-Below
returns-in-Below c x judged = judged_next c.in_ok-operand.ensures.lookup.3.0 c.in_ok-operand.ensures.lookup.1 c.in-Below.is refl judged
