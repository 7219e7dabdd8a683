pub mod ListingCases
pub mod RunListed
pub mod OutputRoom
pub mod LogReports
