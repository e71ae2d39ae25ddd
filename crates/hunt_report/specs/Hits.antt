-- The hits of a hunt: the bindings of many patterns over one log.
use Rattle.std.specs.Prelude.{◌≡◌, ◌⊎◌, ℕ, ◌<◌, ◌≤◌, List, [], ◌∷◌, ◌++◌, Some, None, slice_get}
use Rattle.pattern_types.specs.declared.pattern.Pattern.{Pattern}
use Rattle.pattern_types.specs.PlainPattern.{plain_pattern}
use Rattle.match_bindings.specs.declared.log_entry.LogEntry.{LogEntry}
use Rattle.match_bindings.specs.BindTree.{greatest, tree_of}
use Rattle.match_run.specs.Listing.{AreBindings}
use Rattle.match_run.specs.Matching.{IsNeverOverLimit}
use Rattle.hunt_engine.specs.declared.found.Hit.{Hit}
use Rattle.hunt_engine.specs.EngineLog.{ObservationRow, IsLogOf}
use Rattle.hunt_engine.specs.EngineAnswer.{binds_at, ReportsRow}

-- the observation at which a hit ends, by its number
abbrev pub last_observation : Hit → ℕ
last_observation hit = greatest (tree_of hit.bind)

-- a hit that ends before another, or at the same observation, of an indicator that isn't later in
-- the list
abbrev pub IsEarlierHit : Hit → Hit → Type 0
IsEarlierHit hit other = (last_observation hit < last_observation other) ⊎ ((last_observation hit ≡ last_observation other) × (hit.hunted ≤ other.hunted))

-- the merge of the listings of the patterns over their logs: by observation, then by pattern
pub record AreHits (patterns : List Pattern) (rows : List ObservationRow) (hits : List Hit) : Type 0 where
  pub listings : (place : ℕ) (p : Pattern) → slice_get patterns place ≡ Some p
      → (log : List LogEntry) × IsLogOf (plain_pattern p) rows log × AreBindings p log (binds_at place hits)
  pub no_other : (place : ℕ) → slice_get patterns place ≡ None → binds_at place hits ≡ []
  pub merged : (j k : ℕ) (hit other : Hit) → j < k → slice_get hits j ≡ Some hit → slice_get hits k ≡ Some other → IsEarlierHit hit other

-- no pattern exceeds the limit at any row
abbrev pub AreNeverOverLimit : List Pattern → ℕ → List ObservationRow → Type 0
AreNeverOverLimit patterns retained_limit rows = (place : ℕ) (p : Pattern) → slice_get patterns place ≡ Some p
    → (log : List LogEntry) × IsLogOf (plain_pattern p) rows log × IsNeverOverLimit p retained_limit log

-- the answers to some rows, concatenated, after the rows before them
abbrev pub AnswerRows : List Pattern → List ObservationRow → List ObservationRow → List Hit → Type 0
AnswerRows patterns before [] hits = hits ≡ []
AnswerRows patterns before (row ∷ rows) hits = (own : List Hit) × (later : List Hit) × ReportsRow patterns (before ++ row ∷ []) own
    × AnswerRows patterns (before ++ row ∷ []) rows later × (hits ≡ own ++ later)
