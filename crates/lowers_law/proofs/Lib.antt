pub mod Types
pub mod Opcodes
pub mod Copies
pub mod Meant
pub mod Operations
pub mod Lengths
