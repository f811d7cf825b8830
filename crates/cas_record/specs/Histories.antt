pub mod Chain
pub mod Replay
