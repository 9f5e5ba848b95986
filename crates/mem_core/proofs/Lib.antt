pub mod MemInLemmas
pub mod MemWatchLemmas
