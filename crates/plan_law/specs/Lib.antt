pub mod Ordered
pub mod InOrder
pub mod Distinct
