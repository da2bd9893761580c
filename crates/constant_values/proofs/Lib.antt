pub mod Values
pub mod Parts
pub mod Calculation
pub mod ZeroParts
pub mod Evaluation
