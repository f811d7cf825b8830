pub mod Counting
pub mod Membership
