pub mod Three
pub mod Cases
pub mod Written
