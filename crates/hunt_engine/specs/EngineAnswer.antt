-- What an engine answers to a row: for each pattern the bindings that end there.
use Rattle.std.specs.Prelude.{◌≡◌, ℕ, ◌<◌, ◌≤◌, cond, nat_eq, Some, None, List, [], ◌∷◌, map, length, slice_get}
use Rattle.pattern_types.specs.declared.pattern.Pattern.{Pattern}
use Rattle.pattern_types.specs.PlainPattern.{plain_pattern}
use Rattle.match_bindings.specs.declared.log_entry.LogEntry.{LogEntry}
use Rattle.match_bindings.specs.NumberedPattern.{numbered_pattern}
use Rattle.match_bindings.specs.BindTree.{BindTree, tree_of}
use Rattle.match_stream.specs.Answer.{IsAnswer, IsOverLimit, IsWithinLimit}
use Rattle.hunt_engine.specs.declared.found.Hit.{Hit}
use Rattle.hunt_engine.specs.EngineLog.{ObservationRow, IsLogOf}

-- the bindings of the pattern at an index
abbrev pub binds_at : ℕ → List Hit → List BindTree
binds_at position [] = []
binds_at position (f ∷ found) = cond (nat_eq f.hunted position) (tree_of f.bind ∷ binds_at position found) (binds_at position found)

-- the numbers never decrease
abbrev pub NeverFalls : List ℕ → Type 0
NeverFalls positions = (j k m n : ℕ) → j ≤ k → slice_get positions j ≡ Some m → slice_get positions k ≡ Some n → m ≤ n

-- for each pattern the bindings that end at the last row, each once, in the order of flat lists;
-- ordered by pattern, and for no other index
pub record ReportsRow (patterns : List Pattern) (rows : List ObservationRow) (found : List Hit) : Type 0 where
  pub answers : (position : ℕ) (p : Pattern) → slice_get patterns position ≡ Some p
      → (log : List LogEntry) × IsLogOf (plain_pattern p) rows log × IsAnswer (numbered_pattern p) log (binds_at position found)
  pub no_other : (position : ℕ) → slice_get patterns position ≡ None → binds_at position found ≡ []
  pub ascend : NeverFalls (map (λ f. f.hunted) found)

-- after the last row the pattern retains more than the limit
abbrev pub IsOverLimitFor : Pattern → ℕ → List ObservationRow → Type 0
IsOverLimitFor p retained_limit rows = (log : List LogEntry) × IsLogOf (plain_pattern p) rows log × IsOverLimit (numbered_pattern p) log retained_limit

-- after the last row it retains no more than the limit
abbrev pub IsWithinLimitFor : Pattern → ℕ → List ObservationRow → Type 0
IsWithinLimitFor p retained_limit rows = (log : List LogEntry) × IsLogOf (plain_pattern p) rows log × IsWithinLimit (numbered_pattern p) log retained_limit

-- the pattern at that index is the first to exceed the limit at the last row; its number and the
-- limit are reported
pub record IsFirstOverLimit (patterns : List Pattern) (retained_limit : ℕ) (rows : List ObservationRow) (position number named : ℕ) : Type 0 where
  pub pattern : Pattern
  pub pattern_is : slice_get patterns position ≡ Some pattern
  pub over_limit : IsOverLimitFor pattern retained_limit rows
  pub before : (earlier : ℕ) (p : Pattern) → earlier < position → slice_get patterns earlier ≡ Some p → IsWithinLimitFor p retained_limit rows
  pub numbered : number ≡ length rows
  pub retained_limit_is : named ≡ retained_limit
