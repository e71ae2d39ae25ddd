pub mod Answers
pub mod inner
pub mod Statuses
pub mod Checking
pub mod Config
pub mod AnswersToRequests
