pub mod AlikeLemmas
mod ChunkAlikeLemmas
pub mod RoundLemmas
pub mod AgreedLemmas
pub mod ChunkLemmas
pub mod ChunkAgreedLemmas
pub mod ChunkMadeLemmas
pub mod ChunkWaitLemmas
pub mod OneChunkLemmas
pub mod CutLaws
pub mod UndecidedLemmas
pub mod FilesLemmas
pub mod DealLemmas
pub mod WayLemmas
pub mod TurnLemmas
pub mod ChunkerWays
pub mod WantedLemmas
pub mod FreshLemmas
mod FrontLemmas
pub mod PartsLemmas
pub mod CutterLemmas
pub mod ChunkerLemmas
pub mod UnsaidLemmas
pub mod SinkLemmas
pub mod SectionLemmas
