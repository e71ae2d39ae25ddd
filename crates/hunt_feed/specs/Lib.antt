pub mod Indicators
pub mod Gathering
pub mod inner
pub mod Line
pub mod Feeds
pub mod Texts
