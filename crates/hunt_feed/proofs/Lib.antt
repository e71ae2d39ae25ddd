mod RowsLemmas
pub mod GrowingLemmas
pub mod VersionLemmas
pub mod AddingLemmas
pub mod HuntingLemmas
pub mod BundleLemmas
pub mod FeedLemmas
pub mod OneReadingLemmas
pub mod TextLemmas
