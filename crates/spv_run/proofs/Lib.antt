pub mod Begun
pub mod Meant
pub mod Nexts
pub mod Shapes
pub mod Stepped
