pub mod Sequence
pub mod Meaning
pub mod Kept
pub mod Listed
pub mod Cycles
