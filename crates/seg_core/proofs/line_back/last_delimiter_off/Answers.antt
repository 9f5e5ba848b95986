use Rattle.std.proofs.{lemmas.Grind.common_steps, Common.{◌-◌, length, arith}}
use Rattle.seg_core.proofs.LineCounts.{closed_text, closed_delimiters, open_text}
use Rattle.seg_core.proofs.line_back.last_delimiter_off.Goals as goal

pub returns-then-text-last-clause-count : goal.returns-then-text-last-clause-count
returns-then-text-last-clause-count c = grind (arith, common_steps, closed_text)

pub returns-else-text-last-clause-count : goal.returns-else-text-last-clause-count
returns-else-text-last-clause-count c = grind (arith, common_steps, open_text)

pub returns-then-text-last-clause-delimiters : goal.returns-then-text-last-clause-delimiters
returns-then-text-last-clause-delimiters c = closed_delimiters c.args.text.now (length c.args.text.now - 1) (omega arith) c.if-text-last.true
