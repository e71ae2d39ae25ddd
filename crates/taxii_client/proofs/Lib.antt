mod RequestLemmas
mod OutcomeLemmas
mod FetchLemmas
mod PullLemmas
mod NamedLemmas
mod SortingLemmas
mod StandingLemmas
mod MirroredLemmas
pub mod AttemptLemmas
mod CopyLemmas
