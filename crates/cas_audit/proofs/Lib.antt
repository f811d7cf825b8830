mod Auditing
mod Decisions
mod Facts
mod Findings
mod Going
mod Histories
pub mod LowerFloors
mod Openings
pub mod Spelling
mod Updates
mod Verdicts
mod Walks
