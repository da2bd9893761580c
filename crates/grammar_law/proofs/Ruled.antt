-- A module that conforms is as the laws on calls and functions ask.
pub mod Ruled
