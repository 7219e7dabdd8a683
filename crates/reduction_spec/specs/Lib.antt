pub mod Unions
pub mod Cover
pub mod Reduction
