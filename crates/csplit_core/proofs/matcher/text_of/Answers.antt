use Rattle.std.proofs.lemmas.List.{take_at}
use Rattle.csplit_core.proofs.TryLemmas.{one_line, without_last, none_at, without_none}
use Rattle.std.proofs.lemmas.Grind.{common_steps}
use Rattle.std.proofs.Common.{arith}
use Rattle.csplit_core.proofs.matcher.text_of.Goals as goal

pub returns-then-line-end-eq-NEWLINE : goal.returns-then-line-end-eq-NEWLINE
returns-then-line-end-eq-NEWLINE c = grind (arith, common_steps, one_line, take_at, without_last, none_at)

pub returns : goal.returns
returns c = grind (arith, common_steps, one_line, without_none)
