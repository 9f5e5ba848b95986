pub mod Giving
pub mod Visits
pub mod Placing
