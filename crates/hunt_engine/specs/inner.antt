pub mod Brackets
pub mod Following
pub mod Table
pub mod Memos
pub mod RootBatches
pub mod Evaluation
pub mod Round
pub mod Built
