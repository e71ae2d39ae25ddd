pub mod InputRefusalTextLemmas
pub mod OneReadingLemmas
pub mod ContinuesLemmas
pub mod SomeReadingLemmas
