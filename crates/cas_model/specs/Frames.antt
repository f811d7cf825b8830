pub mod Acceptors
pub mod Step
