pub mod Flags
pub mod Regions
pub mod FlagsKept
