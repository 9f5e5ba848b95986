use Rattle.std.proofs.{lemmas.Grind.common_steps, Common.{arith, length-append}}
use Rattle.seg_core.proofs.{
  Delimiters.delimiters-le-length,
  LineCounts.line_count-le-length,
  LastLines.{but_last_lines-zero, over_begins, over_short},
}
use Rattle.seg_core.proofs.line_window.LineWindow.count_over.Goals as goal

pub returns-then-self-eq0-clause-bytes : goal.returns-then-self-eq0-clause-bytes
returns-then-self-eq0-clause-bytes c = grind (arith, common_steps, length-append, but_last_lines-zero)

pub returns-in-Begins-clause-bytes : goal.returns-in-Begins-clause-bytes
returns-in-Begins-clause-bytes c = grind (arith, common_steps, over_begins)

pub overflow_add-lines-in-Short : goal.overflow_add-lines-in-Short
overflow_add-lines-in-Short c = grind (arith, common_steps, line_count-le-length, length-append)

pub overflow_add-lines : goal.overflow_add-lines
overflow_add-lines c = grind (arith, common_steps, line_count-le-length, length-append)

pub returns-in-Short-clause-bytes : goal.returns-in-Short-clause-bytes
returns-in-Short-clause-bytes c = grind (arith, common_steps, over_short)

pub overflow_add-result : goal.overflow_add-result
overflow_add-result c = omega (arith, delimiters-le-length c.self.inside.delim c.args.piece.now, c.in-Short.ensures.counted)
