-- The text of a pointer's path stands for the place to which the pointer leads.
pub mod Leaves
pub mod Parts
pub mod Bytes
pub mod BlockLayouts
pub mod Types
pub mod Walks
pub mod Starts
pub mod Pointers
pub mod Accesses
pub mod Stored
mod Examples
pub mod Based
pub mod Led
pub mod Ways
pub mod Reached
pub mod Writings
pub mod Asked
pub mod Order
pub mod Lengths
