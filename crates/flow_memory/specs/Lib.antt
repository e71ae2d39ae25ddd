pub mod Streams
pub mod Links
