pub mod Causes
pub mod Records
pub mod Seeds
pub mod Status
pub mod Words
