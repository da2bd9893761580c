pub mod Along
mod Signed
mod Gaining
pub mod Positions
mod Numbers
mod Mentioned
pub mod Reached
mod Few
mod Fine
pub mod Narrow
mod Wanting
