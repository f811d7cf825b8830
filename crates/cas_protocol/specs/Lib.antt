pub mod Acceptors
pub mod Desks
pub mod Held
pub mod Laws
pub mod Proposers
pub mod Protocol
pub mod Reads
