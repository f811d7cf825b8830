pub mod Inner
pub mod Lined
pub mod Written
