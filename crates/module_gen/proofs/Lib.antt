pub mod Cuts
pub mod Octets
pub mod Assembled
pub mod Turns
pub mod Short
pub mod GeneratedExample
