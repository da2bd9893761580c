-- What is written of a function's blocks: the text of a block is that of its instructions, and the expression of a value is that of its operation.
pub mod Blocks
pub mod Steady
