pub mod MatchingRows
pub mod Alert
pub mod WatchState
pub mod inner
