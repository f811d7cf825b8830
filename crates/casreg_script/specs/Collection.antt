pub mod Collecting
pub mod Collections
