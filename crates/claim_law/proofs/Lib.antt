pub mod Spell
pub mod Block
pub mod Claim
