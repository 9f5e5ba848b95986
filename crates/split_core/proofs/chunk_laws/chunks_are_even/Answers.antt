use Rattle.split_core.proofs.ChunkLemmas.{begin_in_chunks, bytes_in_chunk, count_chunks, even_chunks, join_chunks}
use Rattle.split_core.proofs.ChunkLemmas.{lines_in_chunks}
use Rattle.split_core.proofs.chunk_laws.chunks_are_even.Goals as goal

pub returns : goal.returns
returns c = record {
  count = count_chunks;
  all = join_chunks;
  bytes = bytes_in_chunk;
  even = even_chunks;
  lines = lines_in_chunks;
  first_byte = begin_in_chunks;
}
