pub mod Answers
pub mod Call
pub mod Collecting
pub mod Collection
pub mod Council
pub mod Proposing
pub mod Read
pub mod Sending
