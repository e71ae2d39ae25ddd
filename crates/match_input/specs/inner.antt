pub mod Turn
pub mod Reason
