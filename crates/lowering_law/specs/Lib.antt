pub mod Magnitudes
pub mod Says
pub mod Numbers
pub mod BuiltIns
pub mod Stands
pub mod Wanted
pub mod Written
pub mod Arguments
