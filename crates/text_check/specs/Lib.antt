pub mod Words
pub mod Parts
pub mod Statements
pub mod Items
