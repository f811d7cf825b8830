pub mod Flooring
pub mod Laws
pub mod Renewals
pub mod Renewing
pub mod Safe
pub mod SafeCollecting
pub mod SafeCollections
pub mod Steps
