pub mod LogPass
pub mod FrameSteps
pub mod FrameAt
pub mod FrameIndex
pub mod IndexedFrames
pub mod FrameRanges
pub mod FrameDigits
