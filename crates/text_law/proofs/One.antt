-- The module and the options determine the tree of a text.
pub mod Links
pub mod Moves
pub mod Trees
pub mod Orders
pub mod Names
pub mod Plans
pub mod One
