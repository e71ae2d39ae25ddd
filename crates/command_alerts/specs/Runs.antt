-- What holds when the program has ended, by its exit status.
use Rattle.std.specs.Prelude.{◌≡◌, ◌⊎◌, ◌↔◌, ℕ, List}
use Rattle.flow_edges.specs.Streams.{Streams}
use Rattle.pattern_types.specs.declared.pattern.Pattern.{Pattern}
use Rattle.match_input.specs.declared.mode.Mode.TheVariants.{Lines}
use Rattle.match_input.specs.Reading.{BundleOf, InputEnd, Whole, Refused}
use Rattle.match_run.specs.Matching.{ReadsInput}
use Rattle.command_alerts.specs.declared.ending.AlertEnding.{AlertEnding}
use Rattle.command_alerts.specs.Tasks.{AlertTask, AskForAlerts, AskForNoAlerts, IsReadAsLeaf, IsReadAsNoLeaf}
use Rattle.command_alerts.specs.Telling.{ReportsBundles}
use Rattle.command_alerts.specs.Endings.{AskForAlertsWhere, EndsAlerts, alert_status, IsAlertReason}

-- the program ended with one of the endings, with its exit status and its message
pub record EndsAlertRun (arguments : List (List ℕ)) (before after : Streams) (status : ℕ) (Writes : List ℕ → Type 0) : Type 0 where
  pub ending : AlertEnding
  pub status_is : status ≡ alert_status ending
  pub represents : EndsAlerts arguments before after ending
  pub text : List ℕ
  pub reason_is : IsAlertReason ending text
  pub reason : Writes text

-- the arguments ask for the alerts of what is not one observation expression
abbrev pub RefusesAlertPattern : List (List ℕ) → Type 0
RefusesAlertPattern arguments = AskForAlertsWhere arguments (λ task. IsReadAsNoLeaf task.pattern)

-- status 2 means that the arguments are no command line, and 3 that the pattern is refused; only
-- out of memory may replace 3
pub record ReportsRefusals (arguments : List (List ℕ)) (status : ℕ) : Type 0 where
  pub usage : (status ≡ 2) ↔ AskForNoAlerts arguments
  pub pattern : status ≡ 3 → RefusesAlertPattern arguments
  pub refused : RefusesAlertPattern arguments → (status ≡ 3) ⊎ (status ≡ 1)

-- the status of a run over an input with that end
abbrev pub alerter_status : InputEnd → ℕ
alerter_status Whole = 0
alerter_status (Refused line why) = 4

-- the bytes of the input are read as bundles, up to their end or to the first line that is refused,
-- and the alerts over the log of these were reported, and nothing else
pub record ReportsInput (arguments : List (List ℕ)) (before after : Streams) (status : ℕ) : Type 0 where
  pub task : AlertTask
  pub asked : AskForAlerts arguments task
  pub pattern : Pattern
  pub read : IsReadAsLeaf task.pattern pattern
  pub bundles : List BundleOf
  pub end : InputEnd
  pub reading : ReadsInput Lines before.left bundles end
  pub end_is : alerter_status end ≡ status
  pub reports : ReportsBundles pattern task.n task.seconds bundles before.written after.written
