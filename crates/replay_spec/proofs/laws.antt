pub mod Extremes
pub mod Counts
pub mod Monotone
pub mod FirstMissing
pub mod AnswerLaws
