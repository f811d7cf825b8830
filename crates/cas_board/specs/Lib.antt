pub mod Changes
pub mod Looks
pub mod Operations
pub mod Passes
