pub mod Code
pub mod Sets
pub mod Counted
pub mod Clear
pub mod ScanState
pub mod Table
pub mod inner
