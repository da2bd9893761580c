pub mod Ladder
pub mod Flags
