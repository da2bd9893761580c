-- The statements of a reached block are made of declared words: each live instruction asks for such alone.
pub mod Tests
pub mod LiveOrGone
pub mod PlaceMeets
pub mod LogicalCopies
pub mod CompositeMeets
pub mod CallMeets
pub mod ArrayLengths
pub mod GlobalReads
pub mod OperandNames
pub mod Roots
pub mod OuterRoots
pub mod PointerStarts
pub mod PointerRoots
pub mod BlocksMade
pub mod Known
