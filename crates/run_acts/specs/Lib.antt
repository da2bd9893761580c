pub mod Narrowed
pub mod Acts
pub mod Ready
pub mod About
