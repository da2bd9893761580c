pub mod Types
pub mod Constants
pub mod Printed
pub mod Outlines
pub mod Declarations
pub mod Claims
