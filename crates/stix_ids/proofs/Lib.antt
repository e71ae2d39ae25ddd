pub mod KindLemmas
pub mod ByteLemmas
pub mod UuidLemmas
pub mod IdLemmas
