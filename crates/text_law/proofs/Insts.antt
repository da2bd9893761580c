-- What the law of blocks asks of each instruction of a planned function.
pub mod Slots
pub mod New
pub mod KindSteps
pub mod Sets
pub mod Asks
pub mod Barriers
pub mod Values
pub mod Said
pub mod Accessed
pub mod Indexes
