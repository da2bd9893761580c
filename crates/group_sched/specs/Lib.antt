pub mod Sides
pub mod Stores
pub mod Start
