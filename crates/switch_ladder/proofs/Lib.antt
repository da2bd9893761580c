pub mod Chained
pub mod Left
pub mod Passing
