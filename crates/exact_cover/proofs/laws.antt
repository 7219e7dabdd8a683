pub mod Trying
pub mod KeptWords
pub mod GatheredParts
