-- What the constants of a module are in its text, by the order of its items.
pub mod Valued
pub mod Within
pub mod Needed
pub mod Constituents
pub mod Composites
pub mod Inner
pub mod Calculated
pub mod GroupSizes
pub mod Reading
pub mod Written
pub mod Standing
pub mod Constants
pub mod Types
pub mod Variables
pub mod Conforming
