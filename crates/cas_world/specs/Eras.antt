pub mod Moving
pub mod Plans
