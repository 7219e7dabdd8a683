pub mod Opened
pub mod Examples
pub mod laws
