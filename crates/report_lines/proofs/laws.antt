pub mod FrameLaws
pub mod LineLengths
pub mod LineParts
