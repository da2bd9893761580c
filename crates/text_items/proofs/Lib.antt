pub mod Built
pub mod Parts
pub mod Laws
pub mod Joined
pub mod Fits
pub mod Counted
pub mod Firsts
pub mod Unasked
