pub mod Counts
pub mod Beginning
pub mod Fine
