pub mod Statements
pub mod Size
pub mod Written
pub mod Rising
