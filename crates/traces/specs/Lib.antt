pub mod Events
pub mod Invocations
pub mod Runs
pub mod Outcomes
pub mod Simulation
pub mod Preservation
