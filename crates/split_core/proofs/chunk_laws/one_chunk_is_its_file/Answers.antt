use Rattle.split_core.proofs.ChunkLemmas.{chunk_alone, chunks_together, turn_alone}
use Rattle.split_core.proofs.chunk_laws.one_chunk_is_its_file.Goals as goal

pub returns : goal.returns
returns c = record { chunk = chunk_alone; turn = turn_alone; all = chunks_together }
