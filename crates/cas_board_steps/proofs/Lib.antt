pub mod Calls
mod Closing
pub mod Collection
pub mod Eras
pub mod Exchanges
pub mod Fronts
pub mod Parts
