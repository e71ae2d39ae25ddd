pub mod Posting
pub mod Preparing
pub mod Performing
