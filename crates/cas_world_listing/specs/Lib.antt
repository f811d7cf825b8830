pub mod Keys
pub mod Page
pub mod Place
