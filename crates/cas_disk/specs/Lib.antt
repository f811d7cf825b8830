pub mod Disk
pub mod File
pub mod Medium
pub mod MediumLaws
pub mod Memory
pub mod Moments
