-- The rows of a log at which the bracket holds, and the last n of them.
use Rattle.std.specs.Prelude.{◌↔◌, ℕ, ◌+◌, ◌<◌, List, [], ◌∷◌, ◌++◌, Some, Contains, count_by, if◌then◌else◌}
use Rattle.std.specs.declared.cmp.Ordering.{Ordering}
use Rattle.std.specs.Ordering.{ordering_then, int_cmp, nat_cmp, is_lt}
use Rattle.std.specs.List.Sorted.{IsStrictlySortedBy}
use Rattle.match_bindings.specs.declared.log_entry.LogEntry.{LogEntry}
use Rattle.match_bindings.specs.Log.{truth}
use Rattle.alert_window.specs.declared.matching_row.MatchingRow.{MatchingRow}

-- a list of the row with this number, if the bracket holds at it
abbrev pub matching_row : ℕ → LogEntry → List MatchingRow
matching_row number row = if truth (Some row) 0 then record { first = row.first; number = number } ∷ [] else []

-- the matching rows of a list, whose first row has this number
abbrev pub matching_from : ℕ → List LogEntry → List MatchingRow
matching_from number [] = []
matching_from number (row ∷ log) = matching_row number row ++ matching_from (number + 1) log

-- the matching rows of a log, numbered from 1
abbrev pub matching_rows : List LogEntry → List MatchingRow
matching_rows log = matching_from 1 log

-- rows are ordered by first time, then by number
abbrev pub row_cmp : MatchingRow → MatchingRow → Ordering
row_cmp row other = ordering_then (int_cmp row.first other.first) (nat_cmp row.number other.number)

-- how many of the rows come after one
abbrev pub count_after : MatchingRow → List MatchingRow → ℕ
count_after row rows = count_by (λ other. is_lt (row_cmp row other)) rows

-- the last n of the rows, each once, in order: those with fewer than n after them
pub record AreLastRows (n : ℕ) (rows last : List MatchingRow) : Type 0 where
  pub order : IsStrictlySortedBy row_cmp last
  pub each : (row : MatchingRow) → Contains last row ↔ (Contains rows row × (count_after row rows < n))
