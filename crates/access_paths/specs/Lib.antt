pub mod Ways
pub mod Links
pub mod State
