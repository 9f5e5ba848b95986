pub mod FeedingLemmas
pub mod StopLemmas
pub mod InputLemmas
