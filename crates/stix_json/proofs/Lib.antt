pub mod ValueErrorsLemmas
pub mod WalkLemmas
pub mod OrderedLemmas
pub mod NamingLemmas
pub mod WriteLemmas
pub mod ReadingLemmas
pub mod DataOfLemmas
pub mod FieldsLemmas
pub mod InsertionLemmas
pub mod FirstErrorLemmas
pub mod CheckedLemmas
pub mod TokensLemmas
pub mod PropertyValueLemmas
mod SomeJsonLemmas
mod OneJsonLemmas
pub mod PropertiesLemmas
