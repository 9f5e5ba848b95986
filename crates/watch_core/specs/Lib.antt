pub mod Snapshot
pub mod Edits
pub mod Watched
pub mod DirWatchState
