pub mod PaddedLines
pub mod PaddedFrames
pub mod NothingLostHolds
pub mod FormerLogs
