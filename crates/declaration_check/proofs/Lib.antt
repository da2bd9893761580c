pub mod Finds
pub mod Listed
pub mod Ors
pub mod HeldTypes
pub mod Judged
pub mod Groups
pub mod SpecIds
pub mod Asked
