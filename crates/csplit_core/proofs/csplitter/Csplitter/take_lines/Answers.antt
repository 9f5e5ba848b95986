use Rattle.csplit_core.proofs.LineLemmas.{others_whole}
use Rattle.csplit_core.proofs.StageLemmas.{lines_alone}
use Rattle.ports_core.proofs.HandedOn.{handed_on}
use Rattle.std.proofs.{Common.{◌∙◌, arith, sym}, lemmas.Grind.common_steps}
use Rattle.seg_core.proofs.LineCounts.{ends_with-some}
use Rattle.csplit_core.{proofs.{LineLemmas.{first_line}, StageLemmas.{lacks_at, line_at, lines_stop, lines_after}}}
use Rattle.csplit_core.proofs.csplitter.Csplitter.take_lines.Goals as goal

pub returns-then-is_empty-clause-rest : goal.returns-then-is_empty-clause-rest
returns-then-is_empty-clause-rest g c = grind (arith, common_steps)

pub returns-then-is_empty-clause-takes : goal.returns-then-is_empty-clause-takes
returns-then-is_empty-clause-takes g c = lines_alone c.self.view_is (omega arith) (sym c.is_empty.ensures ∙ c.if-is_empty.true) c.take.ensures

pub returns-in_err-extend_from_slice-clause-takes : goal.returns-in_err-extend_from_slice-clause-takes
returns-in_err-extend_from_slice-clause-takes g c = rw (handed_on _ _ c.from_residual.ensures.1) (lacks_at _ c.self.view_is c.requires.sound c.requires.ready)

pub take_line-requires-clause-fits : goal.take_line-requires-clause-fits
take_line-requires-clause-fits g c = grind (arith, common_steps)

pub take_line-requires-clause-line : goal.take_line-requires-clause-line
take_line-requires-clause-line g c = grind (arith, common_steps, line_at, first_line, ends_with-some)

pub returns-in_err-take_line-clause-takes : goal.returns-in_err-take_line-clause-takes
returns-in_err-take_line-clause-takes g c = rw (handed_on _ _ c.from_residual-in_err-take_line.ensures.1)
    (lines_stop c.next_line.result.0.now c.self.view_is
    (c.deref.ensures.value ∙ c.in_ok-extend_from_slice.ensures.items) c.next_line.ensures.joined
    c.next_line.ensures.last c.requires.whole c.in_err-take_line.ensures)

pub take-requires-2-clause-whole : goal.take-requires-2-clause-whole
take-requires-2-clause-whole g c = others_whole c.next_line.result.0.now c.next_line.result.1.now c.next_line.ensures.joined c.requires.whole

pub take-requires-2-clause-fits : goal.take-requires-2-clause-fits
take-requires-2-clause-fits g c = grind (arith, common_steps)

pub returns-clause-takes : goal.returns-clause-takes
returns-clause-takes g c = lines_after c.next_line.result.0.now c.self.view_is
    (c.deref.ensures.value ∙ c.in_ok-extend_from_slice.ensures.items) c.next_line.ensures.joined c.next_line.ensures.last c.requires.whole
    c.in_ok-take_line.ensures c.take-2.ensures
