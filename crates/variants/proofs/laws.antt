pub mod Tallying
pub mod FrameWords
pub mod GatheringWords
pub mod LogWords
pub mod Runs
pub mod LogVariants
pub mod SummaryWords
pub mod CallAnswers
