pub mod Moves
pub mod Copies
pub mod Sources
pub mod Pairs
