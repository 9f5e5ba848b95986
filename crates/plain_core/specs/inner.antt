pub mod Plain
pub mod Table
