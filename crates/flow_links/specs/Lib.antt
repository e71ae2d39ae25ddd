pub mod Dials
pub mod Doors
pub mod Moments
pub mod Phase
pub mod System
