pub mod AgeLemmas
pub mod LimitLemmas
pub mod ListingLemmas
pub mod SlotsLemmas
