pub mod Digits
pub mod Repeats
pub mod FirstGiven
pub mod Sets
pub mod Counts
