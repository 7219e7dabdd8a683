pub mod Rejected
pub mod Search
pub mod Discovery
pub mod TwoRuns
