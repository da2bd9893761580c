pub mod Small
pub mod Numbered
mod Spared
pub mod Singled
pub mod Firsts
pub mod Edges
pub mod Phied
pub mod Moving
pub mod Ordered
pub mod One
pub mod Lone
pub mod Marks
