pub mod Texts
pub mod Naming
pub mod Insertion
pub mod ValueErrors
pub mod FirstErrors
pub mod Checking
pub mod PropertyValue
