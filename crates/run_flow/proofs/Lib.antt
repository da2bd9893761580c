pub mod Bases
pub mod Entries
pub mod Labels
pub mod Lists
pub mod Moves
