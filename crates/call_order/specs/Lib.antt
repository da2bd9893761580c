pub mod Graph
pub mod Released
pub mod Listing
pub mod Cycle
pub mod Depths
pub mod Checked
