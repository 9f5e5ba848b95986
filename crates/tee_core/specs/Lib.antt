pub mod Opening
pub mod Outputs
pub mod Run
pub mod TeeState
pub mod Copy
pub mod Left
pub mod inner
