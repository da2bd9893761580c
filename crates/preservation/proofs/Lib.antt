pub mod Interleavings
