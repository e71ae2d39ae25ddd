pub mod WritesWholeLemmas
pub mod CountedLemmas
