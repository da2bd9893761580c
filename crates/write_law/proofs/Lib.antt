pub mod Kept
pub mod KeptCalls
