pub mod Plan
pub mod Kept
