mod Asked
mod Beginning
mod Begun
mod Filling
mod Giving
mod Going
mod Listing
mod Numbers
mod Racks
mod Restoring
mod Settled
pub mod Again
