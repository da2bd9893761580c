pub mod Keeps
pub mod Trees
pub mod Answers
