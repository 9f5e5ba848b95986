use Rattle.split_core.proofs.ChunkMadeLemmas.{settled_left_out, whole_left_out}
use Rattle.split_core.proofs.chunk_laws.empty_chunks_are_left_out.Goals as goal

pub returns : goal.returns
returns c = record { settled = settled_left_out; whole = whole_left_out }
