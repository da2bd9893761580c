pub mod Short
pub mod Tree
pub mod View
pub mod Size
pub mod Height
