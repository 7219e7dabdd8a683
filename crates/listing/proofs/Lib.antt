pub mod Opened
pub mod laws
