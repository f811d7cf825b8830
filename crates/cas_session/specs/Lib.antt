pub mod Request
pub mod Calls
pub mod Serving
