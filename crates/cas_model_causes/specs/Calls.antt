pub mod Causes
pub mod Rounds
pub mod Told
pub mod Undisturbed
