pub mod Setting
pub mod Memory
pub mod State
pub mod Operands
pub mod Accesses
pub mod Steps
pub mod Run
