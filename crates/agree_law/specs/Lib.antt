pub mod Own
pub mod Agree
pub mod Answers
pub mod Points
pub mod Blocks
pub mod Evaluates
pub mod Tables
pub mod Outs
