pub mod Repeats
pub mod Pairs
pub mod Examples
