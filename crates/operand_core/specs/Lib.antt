pub mod Operand
pub mod Style
pub mod Fault
pub mod Word
pub mod Reading
pub mod Aiming
pub mod inner
