pub mod Laws
pub mod Replies
pub mod Round
pub mod Tally
