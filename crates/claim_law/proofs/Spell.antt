-- Which names stand in what is written: a tree is in the grammar where these are names, and structs are declared.
pub mod Scalars
pub mod Composites
pub mod Grammar
pub mod Values
pub mod Statements
pub mod Sentences
pub mod Regions
pub mod Units
