pub mod ChangesSome
pub mod Opening
pub mod Steps
