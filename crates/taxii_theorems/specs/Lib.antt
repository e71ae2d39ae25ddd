pub mod Runs
pub mod Following
pub mod Reading
pub mod Asking
pub mod Pulling
