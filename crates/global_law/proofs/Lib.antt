pub mod Path
pub mod Global
pub mod Constant
