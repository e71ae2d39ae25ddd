pub mod CheckEndings
pub mod Verdicts
