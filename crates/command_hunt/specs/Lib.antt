pub mod Tasks
pub mod Feeding
pub mod Telling
pub mod Endings
pub mod Runs
pub mod inner
