pub mod Checked
pub mod Classes
pub mod Context
pub mod Flaws
pub mod Grouped
pub mod Kept
pub mod SizeModes
