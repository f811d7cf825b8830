pub mod Agreed
pub mod Nothing
pub mod Standing
