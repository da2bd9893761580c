-- The functions of a text declare the variables of the module's functions.
pub mod Texts
pub mod Sums
pub mod Regions
pub mod Totals
pub mod Blocks
pub mod Loops
pub mod Falls
pub mod Plans
pub mod Bare
pub mod Tops
pub mod Bodies
pub mod Sets
pub mod Known
pub mod Named
pub mod Few
pub mod Spared
pub mod Apart
pub mod OnceSpares
pub mod OnceAll
pub mod Law
mod Examples
