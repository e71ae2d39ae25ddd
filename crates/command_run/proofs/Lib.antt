pub mod ServingLemmas
pub mod RunEndingsLemmas
