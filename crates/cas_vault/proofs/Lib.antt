pub mod Keeping
mod Spellings
