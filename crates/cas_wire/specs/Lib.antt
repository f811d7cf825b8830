pub mod Frame
pub mod FrameReading
pub mod Kinds
pub mod Part
pub mod Reading
pub mod Room
pub mod Spelling
pub mod Writing
