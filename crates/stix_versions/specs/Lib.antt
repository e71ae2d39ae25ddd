pub mod Names
pub mod Versions
pub mod Selector
pub mod Markings
pub mod inner
