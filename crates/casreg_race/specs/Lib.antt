pub mod Race
pub mod Runs
pub mod Texts
