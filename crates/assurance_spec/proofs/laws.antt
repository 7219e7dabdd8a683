pub mod RunSeen
pub mod ListedPlaces
pub mod Demand3Holds
