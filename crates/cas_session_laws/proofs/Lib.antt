pub mod Steps
pub mod Histories
pub mod Calling
pub mod Undisturbed
