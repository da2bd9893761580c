mod Samples
mod AddsOne
mod Straight
mod Control
mod Calls
