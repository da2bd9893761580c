-- What is known of a conforming module: the form of its blocks, the types of what they make, and where the calls of a run stand.
pub mod Formed
pub mod Blocks
pub mod Reach
pub mod Inner
pub mod Pointers
pub mod Pointing
pub mod Shaped
pub mod Traced
pub mod Parameters
pub mod Declares
pub mod Labelled
