pub mod Sizes
pub mod Inside
pub mod Blocks
pub mod Members
pub mod Scalars
pub mod Places
pub mod Taken
