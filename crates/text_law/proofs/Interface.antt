-- The interface of a text is the module's.
pub mod Interfaces
