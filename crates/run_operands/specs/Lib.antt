pub mod Targets
pub mod Looks
pub mod Found
