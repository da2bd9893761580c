pub mod Takes
pub mod State
pub mod Typed
