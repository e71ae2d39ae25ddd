pub mod Like
pub mod inner
pub mod Selection
pub mod Remaining
pub mod Tests
pub mod Truths
