mod WritingLemmas
mod RunLemmas
mod EndLemmas
