pub mod Openings
pub mod OpeningsOn
pub mod Starting
