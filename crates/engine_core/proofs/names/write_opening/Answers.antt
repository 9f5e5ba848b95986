use Rattle.std.proofs.Common.{inr, ◌∙◌, subst}
use Rattle.ports_core.{specs.Write.BrokeAfter, proofs.HandedOn.of_write}
use Rattle.engine_core.{specs.inner.{Names.TellsOpening, Write.broke}, proofs.FileWriterLemmas.stop_is}
use Rattle.engine_core.proofs.names.write_opening.Goals as goal

pub returns-in_err-write_whole : goal.returns-in_err-write_whole
returns-in_err-write_whole g c = stop_is (TellsOpening _ _ _ _) _ _
    (of_write _ _ _ c.from_residual-in_err-write_whole.ensures.1 c.in_err-write_whole.ensures.slot) (inr (broke c.in_err-write_whole.field-0.0.written
    (subst (λ line. BrokeAfter g.O.Outs.visible (g.O.Outs.slots c.args.outs.now)
    (g.O.Outs.slots c.write_whole.new.outs) 0 line c.in_err-write_whole.field-0.0.written) (c.deref.ensures.value
    ∙ c.in_ok-line.ensures) c.in_err-write_whole.ensures.cut)))
