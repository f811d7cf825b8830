pub mod Positions
pub mod Keys
pub mod Prefixes
pub mod Outcomes
