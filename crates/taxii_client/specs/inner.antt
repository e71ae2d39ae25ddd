pub mod Sorting
pub mod Opening
