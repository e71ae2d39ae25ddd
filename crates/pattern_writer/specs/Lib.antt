pub mod Parts
pub mod Path
pub mod Constant
pub mod Check
pub mod Leaf
pub mod Limit
pub mod Canonical
