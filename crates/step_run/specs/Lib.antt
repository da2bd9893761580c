pub mod Answers
pub mod Steps
pub mod Room
pub mod Kept
pub mod Asking
pub mod KeptAll
