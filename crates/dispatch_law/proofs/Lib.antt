pub mod Branches
pub mod Single
