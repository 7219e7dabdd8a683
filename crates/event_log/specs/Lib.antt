pub mod Stepping
pub mod FrameIndex
pub mod Pass
