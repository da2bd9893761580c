pub mod Ruled
pub mod Formed
pub mod Height
pub mod Unit
pub mod Meets
pub mod Grammar
