pub mod States
pub mod Phis
pub mod Based
