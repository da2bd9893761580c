-- The moves of an edge of a planned function are as the law of functions asks.
pub mod Spares
pub mod Copies
pub mod Taken
pub mod PhiOperands
pub mod Aimed
pub mod Standing
pub mod RightPairs
pub mod Planned
