-- The log of an engine, and the log of one pattern over it.
use Rattle.std.specs.Prelude.{◌≡◌, ⊤, ℤ, List, [], ◌∷◌, Option, None, Some}
use Rattle.serde_json.specs.Data.{Data}
use Rattle.stix_bundles.specs.declared.observation.Observation.{Observation}
use Rattle.pattern_types.specs.PlainPattern.{PlainPattern}
use Rattle.match_comparisons.specs.Truths.{AreTruths}
use Rattle.match_bindings.specs.declared.log_entry.LogEntry.{LogEntry}

-- a row: an observation with the objects of its bundle
pub record ObservationRow : Type 0 where
  pub observation : Observation
  pub objects : List Data

abbrev pub engine_row : Observation → List Data → ObservationRow
engine_row observation objects = record { observation = observation; objects = objects }

-- the log entry of a pattern for a row: its times, and a truth for each bracket
pub record IsEntry (p : PlainPattern) (row : ObservationRow) (entry : LogEntry) : Type 0 where
  pub first : entry.first ≡ row.observation.first
  pub last : entry.last ≡ row.observation.last
  pub truths : AreTruths row.objects row.observation.roots p entry.truths

-- row by row
abbrev pub IsLogOf : PlainPattern → List ObservationRow → List LogEntry → Type 0
IsLogOf p [] [] = ⊤
IsLogOf p (row ∷ rows) (entry ∷ log) = IsEntry p row entry × IsLogOf p rows log
IsLogOf p _ _ = ⊥

-- the end of the last row
abbrev pub last_of_rows : List ObservationRow → Option ℤ
last_of_rows [] = None
last_of_rows (row ∷ []) = Some row.observation.last
last_of_rows (row ∷ next ∷ rows) = last_of_rows (next ∷ rows)
