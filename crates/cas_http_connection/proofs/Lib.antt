pub mod Hearing
pub mod Answering
pub mod Spelling
pub mod Serving
