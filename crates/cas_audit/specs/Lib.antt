pub mod Auditing
pub mod Keeping
pub mod Rules
pub mod Spelling
pub mod Tables
pub mod Told
pub mod Watching
