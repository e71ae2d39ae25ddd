pub mod Line
pub mod Reading
pub mod Ahead
pub mod Texts
pub mod inner
