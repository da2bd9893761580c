pub mod Accepted
pub mod Small
