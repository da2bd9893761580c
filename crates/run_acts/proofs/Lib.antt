pub mod Acts
pub mod Walked
