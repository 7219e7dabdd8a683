pub mod Refusals
pub mod Settings
