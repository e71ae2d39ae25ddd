pub mod Kind
pub mod KindBytes
pub mod Uuid
pub mod Identifier
pub mod Reading
pub mod PartsOf
