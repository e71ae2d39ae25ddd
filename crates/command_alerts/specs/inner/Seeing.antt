-- For private clauses: the effect of some observations on the alert generator.
use Rattle.std.specs.Prelude.{◌≡◌, ℕ, ◌+◌, Bool, List, [], ◌∷◌, ◌++◌, length, Option}
use Rattle.serde_json.specs.Data.{Data}
use Rattle.flow_edges.specs.Flow.{WritesPrefix}
use Rattle.stix_bundles.specs.declared.observation.Observation.{Observation}
use Rattle.pattern_types.specs.declared.pattern.Pattern.{Pattern}
use Rattle.pattern_types.specs.PlainPattern.{plain_pattern}
use Rattle.pattern_types.specs.Soundness.{IsSoundPattern}
use Rattle.match_bindings.specs.declared.log_entry.LogEntry.{LogEntry}
use Rattle.match_bindings.specs.Log.{IsInOrder}
use Rattle.match_input.specs.Reading.{BundleOf}
use Rattle.match_run.specs.Entries.{AreEntriesOf}
use Rattle.alert_window.specs.Alert.{IsAlert}
use Rattle.alert_window.specs.WatchState.{WatchState, WatchRepresents}
use Rattle.match_run.specs.Buffered.{IsBuffered}
use Rattle.command_alerts.specs.Alerts.{ReportsRows}
use Rattle.command_alerts.specs.Tasks.{IsOneLeaf}

-- the alert generator, as a value without references
pub record AlerterState : Type 0 where
  pub pattern : Pattern
  pub watch : WatchState

-- a watch represents a log, whose rows are in order
pub record IsBehind (watch : WatchState) (log : List LogEntry) : Type 0 where
  pub represents : WatchRepresents watch log
  pub order : IsInOrder log

-- the pattern is one observation expression, and the watch represents some log
pub record IsReadyAlerter (alerter : AlerterState) : Type 0 where
  pub sound : IsSoundPattern (plain_pattern alerter.pattern)
  pub one : IsOneLeaf alerter.pattern
  pub log : List LogEntry
  pub behind : IsBehind alerter.watch log

abbrev pub alert_row : Observation → Bool → LogEntry
alert_row o holds = record { first = o.first; last = o.last; truths = holds ∷ [] }

-- these rows followed a log, and this text was reported for them
pub record ReportsBehind (n x : ℕ) (log rows : List LogEntry) (watch : WatchState) (text : List ℕ) : Type 0 where
  pub behind : IsBehind watch (log ++ rows)
  pub reports : ReportsRows (IsAlert n x (log ++ rows)) (length log + 1) rows text

-- after any log
pub record TakesLogRows (rows : List LogEntry) (before after : AlerterState) (text : List ℕ) : Type 0 where
  pub pattern_is : after.pattern ≡ before.pattern
  pub n_is : after.watch.n ≡ before.watch.n
  pub x_is : after.watch.x ≡ before.watch.x
  pub reports : (log : List LogEntry) → IsBehind before.watch log → ReportsBehind before.watch.n before.watch.x log rows after.watch text

-- the observations were seen, and this text is reported of them
pub record Sees (objects : List Data) (observations : List Observation) (before after : AlerterState) (text : List ℕ) : Type 0 where
  pub rows : List LogEntry
  pub entries : AreEntriesOf (plain_pattern before.pattern) objects observations rows
  pub takes : TakesLogRows rows before after text

-- a bundle was seen
abbrev pub AlerterSeesBundle : AlerterState → BundleOf → AlerterState → List ℕ → Type 0
AlerterSeesBundle before bundle after text = Sees bundle.objects bundle.observations before after text

-- this text is reported of the first of some observations
pub record SeesFirst (objects : List Data) (observations : List Observation) (before : AlerterState) (text : List ℕ) : Type 0 where
  pub seen : List Observation
  pub later : List Observation
  pub observations_are : observations ≡ seen ++ later
  pub after : AlerterState
  pub sees : Sees objects seen before after text

-- of those of a bundle
abbrev pub SeesFirstOfBundle : AlerterState → BundleOf → List ℕ → Type 0
SeesFirstOfBundle before bundle text = SeesFirst bundle.objects bundle.observations before text

-- of the text reported for them a part is written, and the rest is pending
pub record SeesSoFar (objects : List Data) (observations : List Observation) (before after : AlerterState) (pending : List ℕ)
    (written written_now : Option (List ℕ)) : Type 0 where
  pub text : List ℕ
  pub sees : Sees objects observations before after text
  pub way : IsBuffered text pending written written_now

-- of what is reported of the first of them a prefix is written
pub record SeesPart (objects : List Data) (observations : List Observation) (before : AlerterState) (written written_now : Option (List ℕ)) : Type 0 where
  pub text : List ℕ
  pub sees : SeesFirst objects observations before text
  pub prefix : WritesPrefix text written written_now
