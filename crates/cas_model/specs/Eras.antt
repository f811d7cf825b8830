pub mod Course
pub mod Entering
pub mod Listed
pub mod Listings
pub mod Remaining
pub mod Step
