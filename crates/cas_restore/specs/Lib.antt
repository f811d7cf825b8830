pub mod Members
pub mod Restored
pub mod TakingUp
