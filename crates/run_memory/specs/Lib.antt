pub mod Outcomes
pub mod Barriers
