pub mod Pushes
pub mod Folded
pub mod Laws
mod Examples
