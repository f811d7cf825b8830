pub mod Arrivals
pub mod Greatest
pub mod Lists
pub mod Order
pub mod TallyLemmas
