pub mod Printed
pub mod Level
pub mod Parts
pub mod Reads
