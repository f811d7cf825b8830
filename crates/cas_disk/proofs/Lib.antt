mod Epochs
pub mod Moments
mod Tearing
