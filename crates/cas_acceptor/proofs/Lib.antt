pub mod Decisions
pub mod Fitting
pub mod Moments
pub mod Pages
