pub mod Adding
pub mod Hunting
pub mod Ends
pub mod Reasons
