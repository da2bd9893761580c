pub mod Moves
pub mod Clauses
