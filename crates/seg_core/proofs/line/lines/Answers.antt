use Rattle.seg_core.proofs.LinesOf.{IsLines-lines_of, lines_of-only}
use Rattle.seg_core.proofs.line.lines.Goals as goal

pub returns-clause-are : goal.returns-clause-are
returns-clause-are c = IsLines-lines_of

pub returns-clause-only : goal.returns-clause-only
returns-clause-only c = lines_of-only
