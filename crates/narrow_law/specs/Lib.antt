pub mod Reach
pub mod Low
pub mod Placed
