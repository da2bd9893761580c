pub mod Before
pub mod Bytes
pub mod Steps
pub mod Measures
pub mod Rows
pub mod Fits
pub mod Taken
