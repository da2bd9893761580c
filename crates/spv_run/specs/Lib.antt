pub mod Fetched
pub mod Runs
pub mod Settled
pub mod States
pub mod Whole
