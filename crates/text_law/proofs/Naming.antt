-- The names of a planned function, its blocks and its edges, as the law of functions asks.
pub mod Alone
pub mod Keys
pub mod Fine
pub mod Functions
pub mod Unit
pub mod Insts
pub mod Ends
pub mod Written
pub mod Tree
pub mod Whole
pub mod Accesses
pub mod Tops
pub mod Once
pub mod Firsts
pub mod Labels
pub mod Literals
pub mod Planned
