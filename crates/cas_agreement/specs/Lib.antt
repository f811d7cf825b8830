pub mod Nothing
pub mod Told
