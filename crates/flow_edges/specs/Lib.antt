pub mod Faults
pub mod Flow
pub mod System
pub mod Streams
