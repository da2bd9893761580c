pub mod Causes
pub mod Functions
pub mod Judged
pub mod OfBytes
