pub mod FrameByFrame
pub mod FrameReplay
pub mod Arguments
