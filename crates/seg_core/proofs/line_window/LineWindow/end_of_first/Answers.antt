use Rattle.std.proofs.{lemmas.Grind.common_steps, Common.arith}
use Rattle.seg_core.proofs.FirstLines.{length-first_lines-le}
use Rattle.seg_core.proofs.line_window.LineWindow.end_of_first.Goals as goal

pub returns-clause-within : goal.returns-clause-within
returns-clause-within c = grind (arith, common_steps, length-first_lines-le)
