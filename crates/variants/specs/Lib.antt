pub mod Words
pub mod Gathering
