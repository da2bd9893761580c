pub mod OneStep
pub mod Settled
