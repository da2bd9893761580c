pub mod Serves
pub mod Chain
pub mod Placed
pub mod Leaving
pub mod Written
