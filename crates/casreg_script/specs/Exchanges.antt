pub mod Exchanges
pub mod Orders
pub mod Probes
pub mod Reads
