pub mod Unparsed
pub mod Fit
pub mod Counted
