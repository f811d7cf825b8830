pub mod Seen
pub mod Sitting
pub mod Rule
pub mod Steps
pub mod Seated
