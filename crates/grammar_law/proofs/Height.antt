-- The text of a function is low: how high its expressions and statements are, by what is known of its types, pointers and nesting.
pub mod Lists
pub mod Pointers
pub mod Values
pub mod Statements
pub mod Regions
pub mod Functions
pub mod Items
pub mod Shapes
pub mod Nested
pub mod Paths
pub mod Chains
pub mod Extracted
pub mod Closed
pub mod Unit
