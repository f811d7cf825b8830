pub mod Asking
pub mod Exchanges
