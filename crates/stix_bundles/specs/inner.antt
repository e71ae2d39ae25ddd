pub mod Failures
pub mod Index
pub mod LastTimes
