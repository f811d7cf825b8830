pub mod Generator
pub mod Harms
pub mod Legs
pub mod Links
pub mod Seeded
