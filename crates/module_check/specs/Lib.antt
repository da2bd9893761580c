pub mod Structure
pub mod Asked
pub mod Judged
pub mod ReadFrom
