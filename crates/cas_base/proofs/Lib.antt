pub mod Bytes
pub mod Bools
