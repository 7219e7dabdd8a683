pub mod Bounds
pub mod Lighter
pub mod SetBits
pub mod StrictOrder
pub mod Words
pub mod ListFaults
