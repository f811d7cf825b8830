pub mod Calls
pub mod Collection
pub mod Eras
pub mod Exchanges
pub mod Kept
pub mod Mine
pub mod OwnParts
pub mod Owners
