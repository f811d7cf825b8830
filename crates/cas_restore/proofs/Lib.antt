pub mod Dropping
pub mod Faults
pub mod Placing
pub mod Putting
pub mod Same
pub mod Taking
pub mod Towards
