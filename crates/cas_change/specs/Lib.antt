pub mod Key
pub mod KeyPrefix
pub mod Text
pub mod State
pub mod Program
pub mod ProgramCode
pub mod Outcome
pub mod Same
