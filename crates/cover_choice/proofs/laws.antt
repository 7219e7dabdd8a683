pub mod HighestBit
pub mod CountingWord
pub mod CountingChoices
pub mod Tallying
pub mod Rarity
