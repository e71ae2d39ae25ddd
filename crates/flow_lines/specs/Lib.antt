pub mod Lines
pub mod WholeInput
pub mod inner
