pub mod Phases
pub mod Scan
pub mod Counts
pub mod LineShape
