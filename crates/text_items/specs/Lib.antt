pub mod State
pub mod Names
pub mod Wording
pub mod Globals
pub mod Plain
pub mod Claimed
pub mod View
pub mod Asked
