pub mod RequestParsing
pub mod Searching
pub mod Sessions
pub mod ReplyParsing
pub mod Reading
