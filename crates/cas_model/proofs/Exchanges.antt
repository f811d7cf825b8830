pub mod ReadLaws
pub mod Reads
pub mod Safe
pub mod Steps
pub mod Tellings
