pub mod Analysis
pub mod NarrowPattern
