pub mod Balance
pub mod Judgement
pub mod Missing
pub mod Answers
