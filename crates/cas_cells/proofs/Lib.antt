pub mod Counting
mod Frames
mod Growing
mod Leaving
pub mod Lengths
mod Lists
pub mod Places
mod Placing
mod Recovering
mod Rows
mod Sound
mod Stepping
pub mod Survival
mod Tearing
mod Turning
mod Using
mod Zeros
