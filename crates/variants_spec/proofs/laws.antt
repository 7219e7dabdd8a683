pub mod SameVariants
pub mod LineSums
pub mod FirstLines
pub mod Leading
pub mod Summing
pub mod Answering
