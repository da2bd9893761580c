pub mod Cases
pub mod Fronts
pub mod Ends
pub mod Pieces
pub mod Writes
