pub mod Operand
pub mod Term
pub mod Operator
pub mod Division
pub mod Lowered
