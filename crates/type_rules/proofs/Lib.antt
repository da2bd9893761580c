mod Imports
mod Totals
mod Pairs
mod Targets
mod Sources
mod Repeats
mod Matched
mod Refused
mod Needed
pub mod Contents
