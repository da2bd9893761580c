pub mod Sizes
pub mod Parts
pub mod Rules
pub mod Blocks
