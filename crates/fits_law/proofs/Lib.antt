pub mod Literals
pub mod Parts
pub mod Operations
pub mod Words
pub mod Steps
