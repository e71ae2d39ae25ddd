pub mod Keys
pub mod IndexKeys
pub mod Postings
pub mod Paths
pub mod Indexed
pub mod Finding
