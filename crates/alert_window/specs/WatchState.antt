-- The observable state of a watch, and the log that it represents.
use Rattle.std.specs.Prelude.{◌≡◌, ◌↔◌, ℕ, ℤ, Bool, Option, Some, None, List, [], ◌∷◌, ◌++◌, length, IsTrue}
use Rattle.match_bindings.specs.declared.log_entry.LogEntry.{LogEntry}
use Rattle.match_bindings.specs.Log.{IsInOrder}
use Rattle.alert_window.specs.declared.matching_row.MatchingRow.{MatchingRow}
use Rattle.alert_window.specs.MatchingRows.{matching_rows, AreLastRows}
use Rattle.alert_window.specs.Alert.{IsAlert}

pub record WatchState : Type 0 where
  -- how many matches it waits for, and within how many seconds
  pub n : ℕ
  pub x : ℕ
  -- how many rows it took
  pub rows : ℕ
  -- the end of the last row
  pub last : Option ℤ
  -- the matching rows that it keeps
  pub kept : List MatchingRow

-- the end of the last row
abbrev pub window_end : List LogEntry → Option ℤ
window_end [] = None
window_end (row ∷ []) = Some row.last
window_end (row ∷ next ∷ rows) = window_end (next ∷ rows)

-- a watch represents a log: it knows the length and the end of it, and keeps the last n of its
-- matching rows
pub record WatchRepresents (state : WatchState) (log : List LogEntry) : Type 0 where
  pub rows : state.rows ≡ length log
  pub last : state.last ≡ window_end log
  pub kept : AreLastRows state.n (matching_rows log) state.kept

-- a log with one more row, with the truth of the bracket
abbrev pub with_window_row : List LogEntry → ℤ → ℤ → Bool → List LogEntry
with_window_row log first last holds = log ++ record { first = first; last = last; truths = holds ∷ [] } ∷ []

-- a watch answers the last row of a log: it then represents the log, whose rows are in order, and
-- reports whether that row is an alert
pub record AnswersAlertRow (before after : WatchState) (log : List LogEntry) (answer : Bool) : Type 0 where
  pub represents : WatchRepresents after log
  pub order : IsInOrder log
  pub alert : IsTrue answer ↔ IsAlert before.n before.x log (length log)
