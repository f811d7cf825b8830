pub mod Homes
pub mod Rows
pub mod Stands
pub mod Tables
