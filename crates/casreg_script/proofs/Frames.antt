pub mod Networks
pub mod Ruled
pub mod Rules
pub mod Straying
