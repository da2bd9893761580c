pub mod Declared
pub mod Floats
