pub mod Message
pub mod Frame
pub mod Queue
pub mod Flow
