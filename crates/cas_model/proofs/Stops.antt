pub mod Leaving
pub mod Safe
