mod Unasked
pub mod Expressed
pub mod Placing
pub mod Made
