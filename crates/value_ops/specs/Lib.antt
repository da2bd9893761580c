pub mod Fields
pub mod Quantity
pub mod References
pub mod Scalars
pub mod Shuffled
