pub mod Kept
pub mod Rack
pub mod Store
