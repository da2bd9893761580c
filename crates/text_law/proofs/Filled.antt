-- So it does, and nothing is left to tell.
pub mod Things
pub mod Phis
pub mod Filled
