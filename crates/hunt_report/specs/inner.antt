pub mod Adding
pub mod Noting
pub mod Built
pub mod HitReporting
pub mod Reporting
