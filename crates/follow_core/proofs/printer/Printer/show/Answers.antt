use Rattle.std.proofs.Common.{subst, ap, ◌∙◌}
use Rattle.ports_core.specs.{Write.BrokeAfter, Text.header_of}
use Rattle.follow_core.specs.{Printing.{broke}, Title.title}
use Rattle.follow_core.proofs.printer.Printer.show.Goals as goal

pub returns-clause-short : goal.returns-clause-short
returns-clause-short g c = rw c.if-not-due.false (broke c.in-Err.field-0.written
    (subst (λ text. BrokeAfter g.O.Outs.visible (g.O.Outs.slots c.args.outs.now)
    (g.O.Outs.slots c.write_whole.new.outs) 0 text c.in-Err.field-0.written)
    (c.deref.ensures.value ∙ c.in-Ok.ensures.ok ∙ ap (λ shown. header_of shown c.is_first.result) c.title.ensures
    ∙ ap (header_of (title c.args.name.now)) c.is_first.ensures) c.in-Err.ensures.cut))
