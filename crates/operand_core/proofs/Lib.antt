pub mod AimLemmas
pub mod ReadingLemmas
pub mod SpellingLemmas
