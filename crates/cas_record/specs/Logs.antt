pub mod Happening
pub mod Lawful
pub mod Listing
pub mod Orderly
pub mod Witness
