pub mod Tasks
pub mod Alerts
pub mod Telling
pub mod Endings
pub mod Runs
pub mod inner
