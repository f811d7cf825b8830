pub mod Carrying
pub mod Entering
pub mod Rescanning
