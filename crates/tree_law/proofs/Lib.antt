pub mod Order
pub mod Serving
pub mod SwitchOrder
pub mod Placing
pub mod Leaving
pub mod Fresh
pub mod Leading
