use Rattle.std.proofs.Common.{◌∙◌, sym}
use Rattle.ports_core.proofs.MessageLemmas.{prints_on}
use Rattle.ports_core.proofs.messages.print.Goals as goal

pub returns : goal.returns
returns g c = prints_on _ c.write_whole.result (sym c.broken.ensures ∙ c.if-broken.false) c.write_whole.ensures.whole c.write_whole.ensures.cut
