use Rattle.split_core.proofs.ChunkMadeLemmas.{chunk_complete, chunk_going}
use Rattle.split_core.proofs.chunk_laws.one_chunk_is_complete.Goals as goal

pub returns : goal.returns
returns c = record { complete = chunk_complete; going = chunk_going }
