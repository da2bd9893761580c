pub mod Parts
pub mod Calculated
pub mod Zeros
pub mod Held
pub mod Refused
