pub mod Drawing
pub mod Floors
pub mod Holding
