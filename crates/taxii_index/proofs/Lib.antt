pub mod ListLemmas
pub mod KeyLemmas
mod MadeLemmas
pub mod OrderLemmas
pub mod RowLemmas
pub mod NameLemmas
pub mod IndexLemmas
pub mod LookUpLemmas
mod HintLemmas
pub mod GrowthLemmas
pub mod ObjectLemmas
