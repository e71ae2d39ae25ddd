-- The output for a log: one line per alert.
use Rattle.std.specs.Prelude.{◌≡◌, ◌⊎◌, ℕ, ◌+◌, ℤ, List, [], ◌∷◌, ◌++◌, codes, decimal}
use Rattle.stix_times.specs.Writing.{IsCanonicalTextOf}
use Rattle.match_bindings.specs.declared.log_entry.LogEntry.{LogEntry}
use Rattle.alert_window.specs.Alert.{IsAlert}

-- alert I at TIME
pub record IsAlertLine (number : ℕ) (last : ℤ) (line : List ℕ) : Type 0 where
  pub time : List ℕ
  pub time_is : IsCanonicalTextOf time last
  pub line_is : line ≡ codes "alert " ++ (decimal number ++ (codes " at " ++ (time ++ codes "\n")))

-- for the row with this number: its line with its last time, if it is an alert, or nothing
abbrev pub ReportsAlertRow : (ℕ → Type 0) → ℕ → LogEntry → List ℕ → Type 0
ReportsAlertRow IsAlertAt number row text = (IsAlertAt number × IsAlertLine number row.last text) ⊎ ((¬ IsAlertAt number) × (text ≡ []))

-- for rows in order, the first of which has this number
abbrev pub ReportsRows : (ℕ → Type 0) → ℕ → List LogEntry → List ℕ → Type 0
ReportsRows IsAlertAt number [] text = text ≡ []
ReportsRows IsAlertAt number (row ∷ rows) text = (own : List ℕ) × (later : List ℕ) × ReportsAlertRow IsAlertAt number row own
    × ReportsRows IsAlertAt (number + 1) rows later × (text ≡ own ++ later)

-- for a log: in order, the line of each row that is an alert over the whole log, and nothing else
abbrev pub ReportsLog : ℕ → ℕ → List LogEntry → List ℕ → Type 0
ReportsLog n x log text = ReportsRows (IsAlert n x log) 1 log text
