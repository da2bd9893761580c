pub mod Scope
pub mod Paths
pub mod Values
pub mod Statements
pub mod Globals
pub mod Context
pub mod Kinds
