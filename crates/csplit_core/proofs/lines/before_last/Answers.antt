use Rattle.std.proofs.{lemmas.Grind.common_steps, Common.{arith, take_all, sym, []}}
use Rattle.seg_core.proofs.LastLines.{but_last_lines-zero, but_last_lines-few}
use Rattle.csplit_core.proofs.LineLemmas.{before_begins}
use Rattle.csplit_core.specs.Input.{newline}
use Rattle.csplit_core.proofs.lines.before_last.Goals as goal

pub returns-then-lines-eq0-clause-before : goal.returns-then-lines-eq0-clause-before
returns-then-lines-eq0-clause-before c = grind (arith, common_steps, take_all, but_last_lines-zero)

pub returns-then-lines-eq0-clause-after : goal.returns-then-lines-eq0-clause-after
returns-then-lines-eq0-clause-after c some held = grind (arith, common_steps, take_all, but_last_lines-zero)

pub returns-in-Begins-clause-before : goal.returns-in-Begins-clause-before
returns-in-Begins-clause-before c = before_begins [] c.args.text.now c.last_delimiter_off.ensures.front (c.last_delimiter_off.ensures.count []) c.in-Begins.ensures

pub returns-in-Begins-clause-after : goal.returns-in-Begins-clause-after
returns-in-Begins-clause-after c some held = before_begins held c.args.text.now c.last_delimiter_off.ensures.front (c.last_delimiter_off.ensures.count held) c.in-Begins.ensures

pub returns-in-Short-clause-before : goal.returns-in-Short-clause-before
returns-in-Short-clause-before c = sym (but_last_lines-few newline c.args.lines c.args.text.now
    (let count = c.last_delimiter_off.ensures.count [] in let short = c.in-Short.ensures in omega (arith, count, short.counted, short.fewer)))
