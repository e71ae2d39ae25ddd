pub mod FrameLemmas
pub mod RequestGrammarLemmas
pub mod RequestHeadLemmas
pub mod RequestCheckLemmas
pub mod LengthLemmas
pub mod MethodLemmas
pub mod SearchLemmas
pub mod ValueLemmas
mod ReplyGrammarLemmas
mod ReplyHeadLemmas
mod OutcomeLemmas
mod ReadLemmas
mod ReplyCheckLemmas
