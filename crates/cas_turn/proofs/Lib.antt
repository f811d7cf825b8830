pub mod Rows
pub mod SeenLemmas
pub mod Steady
pub mod Taking
pub mod Parting
pub mod SeatedLemmas
