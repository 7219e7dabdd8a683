pub mod Variants
pub mod Summary
pub mod SummaryOf
