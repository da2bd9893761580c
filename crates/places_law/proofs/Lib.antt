mod Seen
pub mod Steps
pub mod Numbers
pub mod Blocks
pub mod Same
