pub mod Tree
pub mod View
pub mod Follows
pub mod Later
pub mod Arms
pub mod Once
