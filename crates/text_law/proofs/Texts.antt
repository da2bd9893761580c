-- What the text of an accepted module declares, so that the expressions of its functions say their values.
pub mod BuiltIns
pub mod ValueTypes
pub mod ConstantTypes
pub mod OperandTypes
