pub mod Arguments
pub mod Pulling
pub mod Endings
pub mod Runs
