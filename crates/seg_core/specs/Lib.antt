pub mod Blocks
pub mod Count
pub mod Cut
pub mod Line
pub mod Rooms
pub mod Window
pub mod inner
