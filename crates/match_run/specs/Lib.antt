pub mod Entries
pub mod Listing
pub mod Matching
pub mod Output
pub mod inner
pub mod Reading
pub mod Watching
pub mod Buffered
