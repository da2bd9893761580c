mod Given
pub mod Keeps
pub mod Trees
pub mod Outputs
pub mod Ran
