pub mod Version
pub mod FirstVersions
pub mod History
pub mod Duplicates
pub mod Paths
pub mod Selectors
