use Rattle.seg_core.proofs.LinesOf.{joined-lines_of}
use Rattle.std.proofs.lemmas.Grind.{common_steps}
use Rattle.std.proofs.Common.{arith}
use Rattle.csplit_core.proofs.lines.skip_line.Goals as goal

pub returns-clause-first : goal.returns-clause-first
returns-clause-first c skips = grind (arith, common_steps, joined-lines_of)
