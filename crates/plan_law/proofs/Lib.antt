pub mod Heights
pub mod Order
pub mod Listed
pub mod Owned
pub mod Conforming
