pub mod Replies
pub mod Texts
pub mod Reading
