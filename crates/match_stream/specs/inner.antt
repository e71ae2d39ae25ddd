pub mod Nodes
pub mod Totals
pub mod Shape
pub mod Runs
pub mod TreeCode
pub mod ObservableState
