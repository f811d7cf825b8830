pub mod Desks
pub mod Step
