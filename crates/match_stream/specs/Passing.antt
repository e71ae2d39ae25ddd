-- Rows at which no bracket holds, taken in one call.
use Rattle.std.specs.Prelude.{◌≡◌, ℕ, ℤ, ⊤, false, Some, List, [], ◌∷◌, ◌++◌, map, length}
use Rattle.match_bindings.specs.declared.log_entry.LogEntry.{LogEntry}
use Rattle.match_bindings.specs.BindTree.{BindTree}
use Rattle.match_bindings.specs.Log.{IsInOrder, truth}
use Rattle.match_stream.specs.MatcherState.{log_end}

-- no leaf holds at the row
abbrev pub IsNonmatching : LogEntry → Type 0
IsNonmatching row = (leaf : ℕ) → truth (Some row) leaf ≡ false

abbrev pub AreNonmatching : List LogEntry → Type 0
AreNonmatching [] = ⊤
AreNonmatching (row ∷ rows) = IsNonmatching row × AreNonmatching rows

-- these rows continue the log in order, none of them matches a leaf, and the last one ends at
-- `last`
pub record ContinuesWithoutMatch (log nonmatching : List LogEntry) (rows : ℕ) (last : ℤ) : Type 0 where
  pub count : length nonmatching ≡ rows
  pub none_holds : AreNonmatching nonmatching
  pub order : IsInOrder (log ++ nonmatching)
  pub last_is : log_end nonmatching ≡ Some last

-- an empty answer for each row
abbrev pub no_answers : List LogEntry → List (List BindTree)
no_answers rows = map (λ row. []) rows
