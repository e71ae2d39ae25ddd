pub mod Arguments
pub mod Refusal
