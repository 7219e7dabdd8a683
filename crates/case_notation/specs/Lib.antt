pub mod Fields
pub mod Filling
pub mod Numbers
pub mod Texts
pub mod WordLists
pub mod Runs
