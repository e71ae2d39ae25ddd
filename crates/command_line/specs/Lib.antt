pub mod Parts
pub mod CommandLines
pub mod Request
pub mod inner
