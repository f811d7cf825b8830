pub mod Answering
pub mod Confirmed
pub mod Current
pub mod Probed
pub mod Unaged
