use Rattle.split_core.proofs.SinkLemmas.{files_end}
use Rattle.split_core.proofs.chunk_sink.ChunkSink.end.Goals as goal

pub returns-in-Files-clause-brings : goal.returns-in-Files-clause-brings
returns-in-Files-clause-brings g c = rw c.in-Files.is (files_end _ (rw c.in-Files.is at c.requires) c.end.ensures.broke c.end.ensures.goes)
