pub mod Chains
pub mod Existence
pub mod GnuSpelling
pub mod Searching
pub mod Spelled
pub mod Tokens
