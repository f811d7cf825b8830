pub mod Acceptor
pub mod Change
pub mod Decide
