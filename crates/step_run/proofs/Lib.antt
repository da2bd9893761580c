pub mod Lists
pub mod Onward
pub mod Taking
pub mod Giving
pub mod Threads
