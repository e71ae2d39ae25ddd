-- Alerts: where n matches of one bracket within x seconds end (STIX 2.1, section 9.5: REPEATS n
-- TIMES WITHIN x SECONDS).
use Rattle.std.specs.Prelude.{◌≡◌, ℕ, List}
use Rattle.match_bindings.specs.declared.log_entry.LogEntry.{LogEntry}
use Rattle.match_bindings.specs.NumberedPattern.{NumberedPattern, Leaf, Within, Repeats}
use Rattle.match_bindings.specs.BindTree.{BindTree, greatest}
use Rattle.match_bindings.specs.Log.{observed_in}
use Rattle.match_bindings.specs.Binding.{IsBinding}

-- [ .. ] REPEATS n TIMES WITHIN x SECONDS
abbrev pub repeats_within : ℕ → ℕ → NumberedPattern
repeats_within n x = Within (Repeats (Leaf 0) n) x

-- the row of this number is an alert: it is the last one of a binding
abbrev pub IsAlert : ℕ → ℕ → List LogEntry → ℕ → Type 0
IsAlert n x log number = (bind : BindTree) × IsBinding (observed_in log) (repeats_within n x) bind × (greatest bind ≡ number)
