pub mod Codec
pub mod Error
pub mod ErrorOf
pub mod Places
pub mod Vault
