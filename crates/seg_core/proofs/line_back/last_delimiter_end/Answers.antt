use Rattle.seg_core.proofs.EndOfLast.{delimiters-after, last_ends}
use Rattle.seg_core.proofs.line_back.last_delimiter_end.Goals as goal

pub returns-in_err-memrchr-clause-none : goal.returns-in_err-memrchr-clause-none
returns-in_err-memrchr-clause-none c = rw c.from_residual.ensures (delimiters-after c.args.delim 0 c.args.bytes.now c.in_err-memrchr.ensures)

pub returns-clause-some : goal.returns-clause-some
returns-clause-some c = let found = c.in_ok-memrchr.ensures in last_ends c.in_ok-memrchr.field-0 found.0.high found.1 found.0.after
