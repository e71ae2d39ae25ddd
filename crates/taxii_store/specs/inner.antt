pub mod Moving
pub mod Reading
pub mod Candidates
pub mod Sets
pub mod Asking
