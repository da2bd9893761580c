pub mod Words
pub mod Causes
pub mod Ran
pub mod Within
