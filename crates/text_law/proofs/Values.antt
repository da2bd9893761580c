-- What a function's text reads of the module says what the module has.
pub mod Read
pub mod RuntimeMembers
pub mod Known
pub mod Lengths
pub mod Values
pub mod Ends
pub mod EdgesLeft
