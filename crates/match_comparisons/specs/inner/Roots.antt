-- For private clauses: the roots of some observations.
use Rattle.std.specs.Prelude.{ℕ, List, Contains}
use Rattle.stix_bundles.specs.declared.observation.Observation.{Observation}

-- the position is a root of one of them
abbrev pub IsSomeRoot : List Observation → ℕ → Type 0
IsSomeRoot observations at = (observation : Observation) × Contains observations observation × Contains observation.roots at
