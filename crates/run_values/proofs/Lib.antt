pub mod Results
pub mod Led
