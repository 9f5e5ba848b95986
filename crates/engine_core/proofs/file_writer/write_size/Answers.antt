use Rattle.std.proofs.{Common.{◌∙◌, ap, subst, arith}, lemmas.Grind.common_steps}
use Rattle.ports_core.{specs.{Slot.{visible_of, with_written}, Write.BrokeAfter}, proofs.HandedOn.of_write}
use Rattle.engine_core.{specs.inner.Write.{broke, Wrote}, proofs.FileWriterLemmas.{stop_is, line_is}}
use Rattle.engine_core.proofs.file_writer.write_size.Goals as goal

pub returns : goal.returns
returns g c =
    c.in_ok-write_whole.ensures.whole ∙ ap (λ line. with_written 0 (visible_of g.O.Outs.visible line) (g.O.Outs.slots c.args.outs.now))
    (line_is c.args.size 21 c.copy_from_slice.new.self c.copy_from_slice.ensures.after
    (c.as_bytes-digits.ensures.value ∙ c.format.ensures.text) (let fits = c.format.ensures.fits in omega arith))

pub returns-in_err-write_whole : goal.returns-in_err-write_whole
returns-in_err-write_whole g c = stop_is (Wrote _ _ _ _ _) _ _ (of_write _ _ _ c.from_residual.ensures.1 c.in_err-write_whole.ensures.slot)
    (broke c.in_err-write_whole.field-0.0.written
    (subst (λ line. BrokeAfter g.O.Outs.visible (g.O.Outs.slots c.args.outs.now)
    (g.O.Outs.slots c.write_whole.new.outs) 0 line c.in_err-write_whole.field-0.0.written)
    (line_is _ 21 _ c.copy_from_slice.ensures.after
    (c.as_bytes-digits.ensures.value ∙ c.format.ensures.text) (let fits = c.format.ensures.fits in omega arith))
    c.in_err-write_whole.ensures.cut))

pub slice_bounds-write_whole-end : goal.slice_bounds-write_whole-end
slice_bounds-write_whole-end g c = grind (arith, common_steps)
