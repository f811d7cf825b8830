pub mod Collects
pub mod Gathers
pub mod Renewing
