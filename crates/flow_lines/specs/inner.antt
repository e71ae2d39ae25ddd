pub mod Reading
pub mod TakenInput
