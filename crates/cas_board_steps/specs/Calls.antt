pub mod Conflicts
pub mod Changes
pub mod Open
pub mod Stages
