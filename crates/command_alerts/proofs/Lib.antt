mod ArgumentsLemmas
mod TellingLemmas
mod SeeingLemmas
mod EndLemmas
mod RunLemmas
