pub mod MediaType
pub mod Target
pub mod Param
pub mod Value
pub mod Query
pub mod Route
pub mod inner
