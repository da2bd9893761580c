mod StatementsExample
mod FallingExample
pub mod Rows
pub mod Orders
pub mod Steps
pub mod Standing
