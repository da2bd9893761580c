pub mod Conforms
pub mod Runs
pub mod Words
