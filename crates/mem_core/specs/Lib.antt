pub mod MemInState
pub mod MemWatchState
pub mod inner
