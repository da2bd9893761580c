pub mod Operands
pub mod Founds
