pub mod Laws
pub mod Logged
pub mod State
pub mod Step
