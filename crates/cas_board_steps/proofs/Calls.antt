pub mod Acts
pub mod Events
pub mod Holds
pub mod Stages
pub mod Tries
