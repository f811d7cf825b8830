pub mod Read
pub mod ReadLaws
pub mod Step
pub mod Tellings
