pub mod Blocks
pub mod Sizes
pub mod Constants
pub mod Places
pub mod Report
