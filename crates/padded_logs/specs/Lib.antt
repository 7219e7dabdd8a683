pub mod Padding
pub mod NothingLost
pub mod NeverMisread
