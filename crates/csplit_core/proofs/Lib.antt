pub mod AgreedLemmas
pub mod WholeLemmas
pub mod CutterLemmas
pub mod LineLemmas
pub mod TryLemmas
pub mod TakeLemmas
pub mod StretchLemmas
pub mod StageLemmas
