pub mod Edges
pub mod UnderWay
pub mod Passed
pub mod Tops
pub mod Texts
pub mod First
