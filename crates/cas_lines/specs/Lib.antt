pub mod Answers
pub mod Command
pub mod Filling
pub mod Lines
pub mod Reading
pub mod Sink
pub mod Source
pub mod Summary
