pub mod Feeding
pub mod Input
pub mod Reading
pub mod Task
pub mod RunEnds
pub mod RunSteps
pub mod inner
