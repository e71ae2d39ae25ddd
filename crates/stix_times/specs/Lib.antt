pub mod Timestamp
pub mod Instant
pub mod Reading
pub mod Offsets
pub mod Parts
pub mod Digits
pub mod Civil
pub mod Writing
