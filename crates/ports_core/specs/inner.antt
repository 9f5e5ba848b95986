pub mod Name
pub mod Place
pub mod RealInput
pub mod Refusal
pub mod Text
