pub mod Coming
pub mod Ends
pub mod Hearing
pub mod Queues
pub mod Told
pub mod Undisturbed
