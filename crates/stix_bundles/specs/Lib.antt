pub mod Objects
pub mod Bundle
pub mod Lookup
pub mod Observations
pub mod inner
