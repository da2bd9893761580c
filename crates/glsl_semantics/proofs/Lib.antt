pub mod Appended
pub mod MoreTurns
mod OperatorExamples
