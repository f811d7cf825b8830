pub mod Serve
pub mod Stray
pub mod Turn
