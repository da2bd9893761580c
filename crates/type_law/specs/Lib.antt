pub mod Shaped
