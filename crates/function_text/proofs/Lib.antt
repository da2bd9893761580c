pub mod Pushed
mod LiveExamples
