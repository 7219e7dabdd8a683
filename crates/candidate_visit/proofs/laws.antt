pub mod AsTheyAre
pub mod Recording
pub mod Visiting
