pub mod Play
pub mod Tasks
