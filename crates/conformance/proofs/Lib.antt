mod IdsExample
mod LaterRules
mod TypeRefusals
pub mod Callees
pub mod Considered
pub mod OwnIds
pub mod TypeLimits
