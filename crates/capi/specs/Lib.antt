pub mod Settings
pub mod Results
pub mod Version
