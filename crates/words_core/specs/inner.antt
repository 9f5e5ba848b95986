pub mod Choice
pub mod Spelling
pub mod SplitWords
pub mod Format
pub mod Value
