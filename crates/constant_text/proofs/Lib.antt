mod Shapes
mod Members
mod Basic
mod Outlined
mod Bases
mod Decorated
