pub mod Collecting
pub mod Rounds
