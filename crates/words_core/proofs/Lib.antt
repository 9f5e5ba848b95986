pub mod CalledLemmas
pub mod CallingLemmas
pub mod ChoiceLemmas
pub mod CsplitLemmas
mod LetteredLemmas
mod ShortLemmas
pub mod LimitLemmas
pub mod MeaningLemmas
pub mod SpellingLemmas
mod StartLemmas
pub mod ValueLemmas
mod WidthLemmas
pub mod WordsLemmas
pub mod FormatLemmas
