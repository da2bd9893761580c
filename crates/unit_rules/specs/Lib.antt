pub mod Translation
pub mod Unit
pub mod Text
