pub mod Input
pub mod Connection
