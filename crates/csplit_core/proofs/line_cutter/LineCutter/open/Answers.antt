use Rattle.std.proofs.lemmas.Grind.{common_steps}
use Rattle.std.proofs.Common.{◌∙◌, ap, arith}
use Rattle.ports_core.proofs.HandedOn.{handed_on}
use Rattle.engine_core.specs.FileWriter.{WriterState}
use Rattle.csplit_core.{proofs.StageLemmas.{begun_not, first_opened, first_part, made_goes, opened_lacks}}
use Rattle.csplit_core.proofs.line_cutter.LineCutter.open.Goals as goal

pub returns-in_err-matcher : goal.returns-in_err-matcher
returns-in_err-matcher g c = grind (arith, common_steps, handed_on, opened_lacks)

pub returns-in_err-window : goal.returns-in_err-window
returns-in_err-window g c = grind (arith, common_steps, handed_on, opened_lacks)

pub returns-in_err-writer : goal.returns-in_err-writer
returns-in_err-writer g c =
    rw (handed_on _ _ c.from_residual-in_err-writer.ensures.1) (opened_lacks g.O.Outs.visible c.args.operands.now c.in_err-writer.ensures.err)

pub returns-in_err-begin : goal.returns-in_err-begin
returns-in_err-begin g c =
    rw (handed_on _ _ c.from_residual-in_err-begin.ensures.1, ← first_part c.args.style c.args.operands.now)
    (begun_not c.requires.streams
    (made_goes c.args.style c.in_ok-writer.ensures.ok (rw (
      c.opening_of.ensures,
      c.is_kept.ensures,
      c.next_operand-next.ensures,
    ) at c.in_err-begin.ensures.goes))
    (c.in_err-begin.ensures.made ∙ ap (λ (w : WriterState). w.files) c.in_ok-writer.ensures.ok))

pub returns : goal.returns
returns g c =
    rw (c.start-progress.ensures, c.in_ok-window.ensures.ok, c.in_ok-matcher.ensures.ok, c.next_operand-next.ensures)
    (first_opened _ _ c.requires.streams
    (grind (arith, common_steps, made_goes))
    c.in_ok-begin.ensures.size (rw c.start-progress.ensures at c.attempt-aim.ensures.says)
    (grind (arith, common_steps)))

pub begin-requires : goal.begin-requires
begin-requires g c = grind (arith, common_steps)
