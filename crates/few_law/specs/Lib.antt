pub mod Short
pub mod Few
