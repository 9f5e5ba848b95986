use Rattle.std.proofs.Common.{refl}
use Rattle.split_core.proofs.UnsaidLemmas.{ends_unsaid}
use Rattle.split_core.proofs.chunker.Chunker.finish.Goals as goal

pub returns-in-None : goal.returns-in-None
returns-in-None g c = rw (← c.self.view_is) (ends_unsaid _ (rw (← c.self.view_is) at c.requires.ready)
    c.in-None.is refl refl refl c.finish.ensures)
