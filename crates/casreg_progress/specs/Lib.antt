pub mod Faults
pub mod Lines
pub mod Openings
pub mod Runs
