pub mod PrunedAside
pub mod Onward
pub mod InputsLeft
pub mod OutputsLeft
pub mod CallAnswers
