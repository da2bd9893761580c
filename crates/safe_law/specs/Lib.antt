pub mod Safe
pub mod Flags
