pub mod Begun
pub mod Chains
pub mod Flow
