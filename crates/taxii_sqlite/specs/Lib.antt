pub mod Failing
pub mod Columns
pub mod Transactions
pub mod Statements
pub mod Forms
pub mod Changes
pub mod Databases
