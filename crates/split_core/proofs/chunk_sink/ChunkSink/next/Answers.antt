use Rattle.split_core.proofs.SinkLemmas.{files_next, output_next}
use Rattle.split_core.proofs.chunk_sink.ChunkSink.next.Goals as goal

pub returns-in-Files-clause-changes : goal.returns-in-Files-clause-changes
returns-in-Files-clause-changes g c = rw c.in-Files.is (files_next _ (rw c.in-Files.is at c.requires.ready) c.end_file.ensures)

pub returns-in-Output-clause-changes : goal.returns-in-Output-clause-changes
returns-in-Output-clause-changes g c = rw c.in-Output.is (output_next (rw c.in-Output.is at c.requires.ready))
