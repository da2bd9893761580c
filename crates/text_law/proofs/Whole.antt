-- The text of a module that was read and is accepted does what the module does, where what its blocks and edges do is told.
pub mod Order
pub mod Accepted
pub mod Left
pub mod Known
pub mod Main
pub mod Entry
pub mod Whole
pub mod Worded
