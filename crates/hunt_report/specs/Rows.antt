-- The rows of an engine for the bundles of an input.
use Rattle.std.specs.Prelude.{List, map}
use Rattle.std.specs.List.{flat_map}
use Rattle.serde_json.specs.Data.{Data}
use Rattle.stix_bundles.specs.declared.observation.Observation.{Observation}
use Rattle.match_input.specs.Reading.{BundleOf}
use Rattle.hunt_engine.specs.EngineLog.{ObservationRow, engine_row}

-- the rows of some observations, with the objects of their bundle
abbrev pub rows_over : List Data → List Observation → List ObservationRow
rows_over objects observations = map (λ o. engine_row o objects) observations

-- the rows of the bundles of an input, concatenated
abbrev pub rows_of : List BundleOf → List ObservationRow
rows_of bundles = flat_map (λ bundle. rows_over bundle.objects bundle.observations) bundles
