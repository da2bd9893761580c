pub mod Parts
pub mod Heights
pub mod WithOperator
