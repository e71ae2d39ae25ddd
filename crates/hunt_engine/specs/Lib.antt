pub mod EngineLog
pub mod LazyMatcherState
pub mod EngineState
pub mod EngineAnswer
pub mod Memo
pub mod inner
