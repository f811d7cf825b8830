pub mod Asking
pub mod Hearing
pub mod Marking
pub mod Reading
pub mod Truth
