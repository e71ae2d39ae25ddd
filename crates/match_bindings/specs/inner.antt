pub mod Kinds
pub mod Candidates
pub mod Ascending
