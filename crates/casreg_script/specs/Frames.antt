pub mod Conditions
pub mod Network
pub mod Strays
