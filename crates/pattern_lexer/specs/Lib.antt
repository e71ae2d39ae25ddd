pub mod TokenRefusal
pub mod Word
pub mod Values
pub mod Table
pub mod Spans
pub mod inner
pub mod Reading
