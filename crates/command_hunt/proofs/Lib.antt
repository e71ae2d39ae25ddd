mod HuntLemmas
mod ObjectsLemmas
mod RunLemmas
mod ArgumentsLemmas
