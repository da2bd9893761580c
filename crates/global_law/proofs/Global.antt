-- What a text says of its module's constants and built-in variables.
pub mod Plain
pub mod Indexes
pub mod BuiltIns
pub mod Declared
pub mod Blocks
pub mod Shared
pub mod Told
pub mod Zeros
pub mod Privates
pub mod Extents
pub mod Structs
pub mod Nulls
pub mod Sizes
