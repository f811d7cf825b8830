pub mod Blamed
mod Collections
pub mod Looks
pub mod Losses
mod Opened
mod Operating
pub mod Passes
mod Sittings
mod Steps
