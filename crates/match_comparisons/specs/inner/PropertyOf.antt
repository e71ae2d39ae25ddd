-- For private clauses: the property of the object at a position.
use Rattle.std.specs.Prelude.{ℕ, List, Option, slice_get, option_and_then}
use Rattle.serde_json.specs.Data.{Data}
use Rattle.serde_json.specs.Find.{get}

abbrev pub property_of : List Data → List ℕ → ℕ → Option Data
property_of objects name at = option_and_then (get name) (slice_get objects at)
