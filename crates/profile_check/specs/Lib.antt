pub mod Data
pub mod Layouts
