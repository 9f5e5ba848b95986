pub mod ChangeLemmas
pub mod CopyLemmas
pub mod TellLemmas
pub mod EndLemmas
pub mod LeftLemmas
pub mod StartLemmas
pub mod AgreedLemmas
