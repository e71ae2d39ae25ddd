pub mod LinesTextLemmas
pub mod TimeTextLemmas
