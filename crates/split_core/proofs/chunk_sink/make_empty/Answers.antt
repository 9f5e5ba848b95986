use Rattle.std.proofs.Common.{sym}
use Rattle.split_core.proofs.SinkLemmas.{emptied}
use Rattle.split_core.proofs.chunk_sink.make_empty.Goals as goal

pub returns : goal.returns
returns g c = emptied _ c.if-elide.false (sym c.if-is_open.ensures) c.next.ensures.goes
