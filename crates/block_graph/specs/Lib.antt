pub mod Search
pub mod Within
