pub mod RetainedPart
pub mod MatcherState
pub mod Answer
pub mod Passing
pub mod inner
