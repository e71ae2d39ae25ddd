pub mod Tasks
pub mod MatchEndings
