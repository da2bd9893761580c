pub mod Preserves
