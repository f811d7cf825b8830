pub mod Desk
pub mod Round
