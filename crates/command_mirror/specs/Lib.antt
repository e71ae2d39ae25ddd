pub mod Arguments
pub mod Summary
pub mod Endings
pub mod Runs
