-- The observable state of an engine, and the rows that it represents.
use Rattle.std.specs.Prelude.{◌≡◌, ℕ, ℤ, Bool, false, Option, Some, List, length, slice_get}
use Rattle.pattern_types.specs.declared.pattern.Pattern.{Pattern}
use Rattle.pattern_types.specs.PlainPattern.{plain_pattern}
use Rattle.match_bindings.specs.declared.log_entry.LogEntry.{LogEntry}
use Rattle.hunt_engine.specs.EngineLog.{ObservationRow, IsLogOf, last_of_rows}
use Rattle.hunt_engine.specs.LazyMatcherState.{LazyMatcherState, Follows}

pub record EngineState : Type 0 where
  -- the patterns of the hunted list
  pub patterns : List Pattern
  -- how much each may retain
  pub retained_limit : ℕ
  -- how many rows it took
  pub rows : ℕ
  -- the end of the last row
  pub last : Option ℤ
  -- whether it has ended
  pub ended : Bool
  -- the state of each pattern, by its index
  pub lazy_matchers : List LazyMatcherState

-- the state of a pattern follows its log over the rows
abbrev pub FollowsRows : Pattern → ℕ → List ObservationRow → LazyMatcherState → Type 0
FollowsRows p retained_limit rows lazy_matcher = (log : List LogEntry) × IsLogOf (plain_pattern p) rows log × Follows p retained_limit log lazy_matcher

-- an engine that hasn't ended represents the rows which the state of each pattern follows
pub record EngineRepresents (state : EngineState) (rows : List ObservationRow) : Type 0 where
  pub runs : state.ended ≡ false
  pub rows_are : state.rows ≡ length rows
  pub last_is : state.last ≡ last_of_rows rows
  pub count : length state.lazy_matchers ≡ length state.patterns
  pub each : (position : ℕ) (p : Pattern) (lazy_matcher : LazyMatcherState) → slice_get state.patterns position ≡ Some p
      → slice_get state.lazy_matchers position ≡ Some lazy_matcher → FollowsRows p state.retained_limit rows lazy_matcher

-- it has ended, or represents some rows
abbrev pub IsReadyEngine : EngineState → Type 0
IsReadyEngine state = state.ended ≡ false → (rows : List ObservationRow) × EngineRepresents state rows
