pub mod Opened
pub mod Examples
