use Rattle.std.proofs.{Common.{length, sym, ◌∙◌, arith}, lemmas.List.{take_all, drop_all}}
use Rattle.seg_core.proofs.{EndLines.after_lines-past, FirstLines.first_lines-short}
use Rattle.csplit_core.{specs.Input.newline, proofs.LineLemmas.rest_is}
use Rattle.csplit_core.proofs.lines.split_lines.Goals as goal

pub returns-in-Ends-clause-rest : goal.returns-in-Ends-clause-rest
returns-in-Ends-clause-rest c = c.split_at.ensures.back ∙ rest_is c.in-Ends.end c.in-Ends.ensures

pub returns-in-Short-clause-first : goal.returns-in-Short-clause-first
returns-in-Short-clause-first c = c.split_at-in-Short.ensures.front ∙ take_all (length c.args.text.now) c.args.text.now (omega arith) ∙ sym (first_lines-short newline c.args.lines c.args.text.now (omega (arith, c.in-Short.ensures.counted, c.in-Short.ensures.fewer)))

pub returns-in-Short-clause-rest : goal.returns-in-Short-clause-rest
returns-in-Short-clause-rest c = c.split_at-in-Short.ensures.back ∙ drop_all (length c.args.text.now) c.args.text.now (omega arith) ∙ sym (after_lines-past newline c.args.lines c.args.text.now (omega (arith, c.in-Short.ensures.counted, c.in-Short.ensures.fewer)))
