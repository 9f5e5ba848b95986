pub mod Stage
pub mod Kept
