pub mod FileWriter
pub mod Names
pub mod Written
pub mod Shares
pub mod Write
