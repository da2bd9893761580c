pub mod Ids
pub mod Confs
