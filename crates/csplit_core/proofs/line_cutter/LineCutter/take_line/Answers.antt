use Rattle.csplit_core.proofs.StretchLemmas.{starts_line}
use Rattle.csplit_core.proofs.line_cutter.LineCutter.take_line.Goals as goal

pub take_lines-requires-clause-start : goal.take_lines-requires-clause-start
take_lines-requires-clause-start g c some = starts_line c.requires.line
