pub mod Acceptors
pub mod Harms
pub mod Safe
pub mod Shortfalls
pub mod Steps
