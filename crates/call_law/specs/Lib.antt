pub mod Waits
pub mod Frames
pub mod Known
pub mod Reached
