mod ArgumentLemmas
mod CauseLemmas
mod EndLemmas
