pub mod Environment
pub mod Connections
pub mod Serving
pub mod inner
