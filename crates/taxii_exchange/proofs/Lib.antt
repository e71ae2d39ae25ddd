pub mod AnswerLemmas
pub mod AnswersToRequestsLemmas
