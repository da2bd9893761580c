pub mod Held
pub mod Graph
pub mod Nesting
pub mod EdgeKinds
pub mod Structure
