pub mod Walks
pub mod Search
pub mod Within
pub mod Told
