pub mod Candidates
pub mod Definite
pub mod inner
