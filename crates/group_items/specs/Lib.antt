pub mod Events
pub mod Memory
pub mod Sides
pub mod Schedule
pub mod Playing
pub mod Played
