pub mod Scopes
pub mod Indexed
pub mod Edges
pub mod Matches
pub mod Needed
pub mod Judging
