-- What stands outside of the functions of an accepted module's text: its constants say their values, its variables begin paths, and with the values that the module's have.
pub mod OfWords
pub mod Short
pub mod Asked
pub mod Text
pub mod Begins
pub mod Globals
pub mod Locals
pub mod Constants
pub mod Starts
pub mod Typed
pub mod Indexed
pub mod Firsts
pub mod Tops
