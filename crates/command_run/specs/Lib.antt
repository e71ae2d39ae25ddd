pub mod Services
pub mod ServeEndings
pub mod Requests
pub mod RunEndings
