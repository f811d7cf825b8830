pub mod Beginning
pub mod Count
pub mod Reading
