-- What an ending implies for the arguments, the log and what was reported; its exit status, and its
-- message.
use Rattle.std.specs.Prelude.{◌≡◌, ◌⊎◌, ℕ, List, [], codes}
use Rattle.flow_edges.specs.Streams.{Streams, AreUntouched}
use Rattle.pattern_types.specs.declared.pattern.Pattern.{Pattern}
use Rattle.match_input.specs.Texts.{IsInputRefusalText}
use Rattle.match_run.specs.declared.watch_end.WatchEnd.{WatchEnd}
use Rattle.std.specs.declared.convert.Infallible.{Infallible}
use Rattle.match_run.specs.declared.watch_end.WatchEnd.TheVariants as end
use Rattle.command_reasons.specs.Reasons.{IsRefusedPattern, pattern_reason}
use Rattle.command_alerts.specs.declared.ending.AlertEnding.{AlertEnding}
use Rattle.command_alerts.specs.declared.ending.AlertEnding.TheVariants.{Usage, PatternRefused, NotLeaf, Ended, NoMemory}
use Rattle.command_alerts.specs.Tasks.{AlertTask, AskForAlerts, AskForNoAlerts, IsReadAsLeaf, IsReadAsMore}
use Rattle.command_alerts.specs.Telling.{AnswersAlerts}

-- the arguments request a task, for which that holds
pub record AskForAlertsWhere (arguments : List (List ℕ)) (Holds : AlertTask → Type 0) : Type 0 where
  pub task : AlertTask
  pub asked : AskForAlerts arguments task
  pub holds : Holds task

-- the text is read as one observation expression, and the alerts of the input were reported
pub record FollowsInput (before after : Streams) (ended : WatchEnd Infallible) (task : AlertTask) : Type 0 where
  pub pattern : Pattern
  pub read : IsReadAsLeaf task.pattern pattern
  pub answers : AnswersAlerts pattern task.n task.seconds before after ended

-- what an ending implies for what is requested
abbrev pub EndsAlertTask : Streams → Streams → AlertEnding → AlertTask → Type 0
EndsAlertTask before after Usage task = ⊥
EndsAlertTask before after (PatternRefused refusal) task = IsRefusedPattern task.pattern refusal × AreUntouched before after
EndsAlertTask before after NotLeaf task = IsReadAsMore task.pattern × AreUntouched before after
EndsAlertTask before after (Ended ended) task = FollowsInput before after ended task
EndsAlertTask before after NoMemory task = AreUntouched before after

-- the arguments are no command line, and that is the ending; or they request a task, for which it
-- says that
abbrev pub EndsAlerts : List (List ℕ) → Streams → Streams → AlertEnding → Type 0
EndsAlerts arguments before after ending = (AskForNoAlerts arguments × (ending ≡ Usage) × AreUntouched before after) ⊎ AskForAlertsWhere arguments (EndsAlertTask before after ending)

abbrev pub alert_status : AlertEnding → ℕ
alert_status (Ended end.Done) = 0
alert_status (Ended end.NoMemory) = 1
alert_status NoMemory = 1
alert_status Usage = 2
alert_status (PatternRefused refusal) = 3
alert_status NotLeaf = 3
alert_status (Ended (end.Input line why)) = 4
alert_status (Ended end.ReadFault) = 5
alert_status (Ended end.WriteFault) = 6
alert_status (Ended (end.Stopped never)) = elim never [ ]

abbrev pub IsAlertReason : AlertEnding → List ℕ → Type 0
IsAlertReason (Ended end.Done) text = text ≡ []
IsAlertReason (Ended end.NoMemory) text = text ≡ codes "out of memory\n"
IsAlertReason NoMemory text = text ≡ codes "out of memory\n"
IsAlertReason Usage text = text ≡ codes "usage: stix_alerts PATTERN N SECONDS\n"
IsAlertReason (PatternRefused refusal) text = text ≡ pattern_reason refusal
IsAlertReason NotLeaf text = text ≡ codes "pattern refused: NotLeaf\n"
IsAlertReason (Ended (end.Input line why)) text = IsInputRefusalText line why text
IsAlertReason (Ended end.ReadFault) text = text ≡ codes "read fault\n"
IsAlertReason (Ended end.WriteFault) text = text ≡ codes "write fault\n"
IsAlertReason (Ended (end.Stopped never)) text = ⊥
