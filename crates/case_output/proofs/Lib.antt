pub mod Examples
pub mod Progressions
