use Rattle.std.proofs.Common.{refl}
use Rattle.engine_core.proofs.AgreedLemmas.{agreed_now, common}
use Rattle.split_core.{
  specs.{ChunkWork.turn_work, laws.ChunkWorkLaws.turn_lawful},
  proofs.{
    ChunkAgreedLemmas.{chunk_agreed, chunks_agreed, files_agreed},
    ChunkMadeLemmas.chunks_made,
    ChunkWaitLemmas.{chunks_least, chunks_placed, chunks_wait},
    OneChunkLemmas.{chunk_placed, chunk_waits},
  },
}
use Rattle.split_core.proofs.chunk_laws.chunks_agree.Goals as goal

pub returns : goal.returns
returns c = record {
  outputs = λ plan said x some named quiet fits. chunks_agreed plan said x some named fits quiet;
  files = files_agreed;
  made = chunks_made;
  waits = chunks_wait;
  placed = chunks_placed;
  least = chunks_least;
  chunk = chunk_agreed;
  chunk_waits = λ place chunks said x within. chunk_waits place chunks within said x;
  chunk_placed = chunk_placed;
  turn = λ place count delim x. agreed_now (turn_work place count delim) x
      (common (turn_work place count delim) (turn_lawful place count delim) x) refl;
}
