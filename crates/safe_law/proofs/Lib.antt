pub mod SafeScalars
pub mod SafeParts
pub mod SafeValues
pub mod SafeStatements
pub mod Flags
pub mod KeptFlags
