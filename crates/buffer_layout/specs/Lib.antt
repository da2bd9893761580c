pub mod Ruler
pub mod Members
pub mod Measures
pub mod Plan
