pub mod Era
pub mod Fault
pub mod Laws
pub mod Quorum
