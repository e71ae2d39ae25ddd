-- A log: its observations in order, each with its span of time, and whether each leaf of a pattern holds for it.
use Rattle.std.specs.Prelude.{ℕ, zero, suc, ⊤, ℤ, pos, ◌≤ℤ◌, Bool, false, List, [], ◌∷◌, Option, Some, None, slice_get, unwrap_or}
use Rattle.match_bindings.specs.declared.log_entry.LogEntry.{LogEntry}

-- the last row of the list ends no later than the time
abbrev pub LastIsBy : List LogEntry → ℤ → Type 0
LastIsBy [] time = ⊤
LastIsBy (row ∷ []) time = row.last ≤ℤ time
LastIsBy (row ∷ next ∷ rows) time = LastIsBy (next ∷ rows) time

-- no row begins after it ends, and the ends never decrease
abbrev pub IsInOrder : List LogEntry → Type 0
IsInOrder [] = ⊤
IsInOrder (row ∷ []) = row.first ≤ℤ row.last
IsInOrder (row ∷ next ∷ rows) = (row.first ≤ℤ row.last) × (row.last ≤ℤ next.last) × IsInOrder (next ∷ rows)

-- the row of a number; rows are numbered_row from 1
abbrev pub numbered_row : List LogEntry → ℕ → Option LogEntry
numbered_row log zero = None
numbered_row log (suc i) = slice_get log i

abbrev pub first_time : Option LogEntry → ℤ
first_time None = pos 0
first_time (Some row) = row.first

abbrev pub last_time : Option LogEntry → ℤ
last_time None = pos 0
last_time (Some row) = row.last

-- the row has a truth for the leaf, and it is true
abbrev pub truth : Option LogEntry → ℕ → Bool
truth None k = false
truth (Some row) k = unwrap_or (slice_get row.truths k) false

-- what a binding needs to know of a log: the first and last time of each observation, and whether
-- leaf k holds for it
pub record Observed : Type 0 where
  pub first : ℕ → ℤ
  pub last : ℕ → ℤ
  pub holds : ℕ → ℕ → Bool

abbrev pub observed_in : List LogEntry → Observed
observed_in log = record {
  first = λ i. first_time (numbered_row log i);
  last = λ i. last_time (numbered_row log i);
  holds = λ k i. truth (numbered_row log i) k;
}
