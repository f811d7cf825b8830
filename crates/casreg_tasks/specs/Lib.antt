pub mod Histories
pub mod Tasks
pub mod Texts
