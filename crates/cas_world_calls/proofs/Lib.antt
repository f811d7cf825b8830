pub mod Gathering
pub mod Listed
pub mod Reading
pub mod Renewed
pub mod Sending
