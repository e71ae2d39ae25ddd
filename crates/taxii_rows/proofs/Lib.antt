pub mod VersionLemmas
pub mod SoundLemmas
pub mod AscendLemmas
pub mod StateLemmas
