pub mod Decorations
pub mod Enumerants
pub mod Groups
pub mod OpGroups
pub mod Opcode
pub mod Operands
pub mod Shape
