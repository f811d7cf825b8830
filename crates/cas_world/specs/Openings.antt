pub mod Opening
pub mod OpeningOn
