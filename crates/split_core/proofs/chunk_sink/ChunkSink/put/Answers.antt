use Rattle.split_core.proofs.SinkLemmas.{files_put, output_put}
use Rattle.split_core.proofs.chunk_sink.ChunkSink.put.Goals as goal

pub returns-in-Files-clause-changes : goal.returns-in-Files-clause-changes
returns-in-Files-clause-changes g c = rw c.in-Files.is (files_put _ _ (rw c.in-Files.is at c.requires) c.put.ensures.goes)

pub returns-in-Output-clause-changes : goal.returns-in-Output-clause-changes
returns-in-Output-clause-changes g c = rw c.in-Output.is (output_put _ _ (rw c.in-Output.is at c.requires) c.write_where.ensures)
