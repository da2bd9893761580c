pub mod Store
pub mod Grid
pub mod Dispatch
