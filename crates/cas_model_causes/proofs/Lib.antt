pub mod Calls
pub mod Collection
pub mod Eras
pub mod Exchanges
