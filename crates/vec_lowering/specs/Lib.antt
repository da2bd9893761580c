pub mod Named
pub mod Component
pub mod Composite
pub mod Lowered
pub mod Depth
pub mod Operators
