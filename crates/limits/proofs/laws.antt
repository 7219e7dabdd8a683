pub mod SettingsRanges
pub mod FirstOf
pub mod AnswerNumbers
