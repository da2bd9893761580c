pub mod Laid
pub mod Plans
pub mod Causes
