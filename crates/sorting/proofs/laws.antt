pub mod Sorted
pub mod SameSums
pub mod Ascending
