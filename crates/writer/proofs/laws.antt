pub mod PlaceLines
pub mod Refusals
