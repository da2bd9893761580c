mod PlanExample
pub mod Walking
pub mod Passes
pub mod Rising
pub mod Bound
pub mod Alone
