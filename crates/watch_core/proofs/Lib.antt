pub mod WorldLemmas
pub mod NameLemmas
pub mod DirWatchLemmas
