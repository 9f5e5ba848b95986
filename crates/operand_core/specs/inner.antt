pub mod Aiming
pub mod Repeating
pub mod Seen
