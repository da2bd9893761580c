pub mod Heights
mod Examples
