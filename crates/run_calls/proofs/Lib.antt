pub mod Begun
pub mod Taken
pub mod Returned
