mod Among
mod Gathering
pub mod Keys
mod Noting
