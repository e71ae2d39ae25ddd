pub mod MatchEnds
pub mod Rows
pub mod MatchRuns
pub mod WatchEnds
pub mod WatchRuns
