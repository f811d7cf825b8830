pub mod Calls
pub mod Chains
pub mod Lemmas
pub mod Links
pub mod Next
pub mod Replays
