pub mod Presence
pub mod Names
pub mod Keys
pub mod Index
pub mod Hints
