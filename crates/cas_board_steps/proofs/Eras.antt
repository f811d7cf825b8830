pub mod Counting
pub mod Plans
pub mod Rescans
