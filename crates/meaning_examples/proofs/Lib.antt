mod Samples
mod AddsOne
mod Sums
mod Rows
mod Texts
