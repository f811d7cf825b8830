pub mod Serving
pub mod Straying
pub mod Strays
pub mod Turning
pub mod Turns
