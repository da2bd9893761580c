pub mod Assembly
pub mod Held
pub mod Rows
pub mod Generated
