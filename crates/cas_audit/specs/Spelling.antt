pub mod Lines
pub mod Printing
pub mod Progress
pub mod Ranges
pub mod Reading
pub mod Texts
