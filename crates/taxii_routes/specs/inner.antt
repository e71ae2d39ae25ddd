pub mod Step
pub mod Table
pub mod Found
