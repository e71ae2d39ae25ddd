pub mod Stores
pub mod Expiry
pub mod PartialMatchTree
pub mod RowNumbers
pub mod inner
