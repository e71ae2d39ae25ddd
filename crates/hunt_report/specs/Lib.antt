pub mod Sightings
pub mod Envelope
pub mod inner
pub mod Rows
pub mod Hits
pub mod Lines
pub mod HitSummaries
pub mod Hunting
