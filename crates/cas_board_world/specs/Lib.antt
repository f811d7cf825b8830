pub mod Blame
pub mod Steady
