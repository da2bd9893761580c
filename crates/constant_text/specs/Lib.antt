pub mod Held
pub mod Scalars
pub mod Named
pub mod Zeros
pub mod Bases
pub mod SpecIds
