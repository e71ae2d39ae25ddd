mod OrderLemmas
mod KeptLemmas
mod AlertLemmas
mod TakeLemmas
mod StayLemmas
