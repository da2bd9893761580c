mod StatementsExample
pub mod Further
pub mod Deep
pub mod Operators
