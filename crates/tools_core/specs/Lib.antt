pub mod Tasks
pub mod Run
pub mod Outcome
pub mod About
pub mod Following
pub mod Program
pub mod inner
pub mod laws
