-- The output of a run over an input, by how it ended. The pattern is one observation expression; n
-- and x are the number of matches and the window in seconds.
use Rattle.std.specs.Prelude.{◌≡◌, ◌⊎◌, ℕ, List, [], ◌∷◌, ◌++◌, Option}
use Rattle.std.specs.declared.convert.Infallible.{Infallible}
use Rattle.flow_edges.specs.Flow.{IsAtEnd, written_with, WritesPrefix}
use Rattle.flow_edges.specs.Streams.{Streams}
use Rattle.stix_bundles.specs.declared.observation.Observation.{Observation}
use Rattle.pattern_types.specs.declared.pattern.Pattern.{Pattern}
use Rattle.pattern_types.specs.PlainPattern.{plain_pattern}
use Rattle.match_bindings.specs.declared.log_entry.LogEntry.{LogEntry}
use Rattle.match_input.specs.declared.mode.Mode.TheVariants.{Lines}
use Rattle.match_input.specs.declared.rule.InputRule.{InputRule}
use Rattle.match_input.specs.Reading.{BundleOf, Whole, Refused}
use Rattle.match_run.specs.Entries.{AreEntriesOf, AreEntries}
use Rattle.match_run.specs.Matching.{ReadsInput, HasPrefix, StopsIn, ReadsTaken}
use Rattle.match_run.specs.Reading.{ReadsOnlyTo}
use Rattle.match_run.specs.declared.watch_end.WatchEnd.{WatchEnd}
use Rattle.match_run.specs.declared.watch_end.WatchEnd.TheVariants.{Done, Input, ReadFault, WriteFault, Stopped, NoMemory}
use Rattle.command_alerts.specs.Alerts.{ReportsLog}

-- the alerts over the log of some bundles were reported
pub record ReportsBundles (p : Pattern) (n x : ℕ) (bundles : List BundleOf) (written written_after : Option (List ℕ)) : Type 0 where
  pub log : List LogEntry
  pub entries : AreEntries (plain_pattern p) bundles log
  pub text : List ℕ
  pub reports : ReportsLog n x log text
  pub text_is : written_after ≡ written_with text written

-- the input was read to its end, and all alerts were reported
pub record ReportsWhole (p : Pattern) (n x : ℕ) (before after : Streams) : Type 0 where
  pub bundles : List BundleOf
  pub reading : ReadsInput Lines before.left bundles Whole
  pub reports : ReportsBundles p n x bundles before.written after.written
  pub drained : IsAtEnd after.left

-- it was read up to the first line that is refused, and the alerts before it were reported
pub record ReportsBefore (p : Pattern) (n x : ℕ) (before after : Streams) (line : ℕ) (why : InputRule) : Type 0 where
  pub bundles : List BundleOf
  pub reading : ReadsInput Lines before.left bundles (Refused line why)
  pub reports : ReportsBundles p n x bundles before.written after.written
  pub little : StopsIn line before.left after.left

-- a read failed: the alerts of the whole lines in the bytes taken were reported
pub record ReportsTaken (p : Pattern) (n x : ℕ) (before after : Streams) : Type 0 where
  pub bundles : List BundleOf
  pub begins : HasPrefix Lines before.left bundles
  pub reports : ReportsBundles p n x bundles before.written after.written
  pub taken : ReadsTaken bundles before.left after.left

-- the run stopped within a bundle, and read no further than its line: the alerts of the bundles
-- before were reported, and of what is reported of its first observations a prefix was written
pub record AlerterStopsWithin (p : Pattern) (n x : ℕ) (before after : Streams) : Type 0 where
  pub earlier : List BundleOf
  pub bundle : BundleOf
  pub begins : HasPrefix Lines before.left (earlier ++ bundle ∷ [])
  pub only : ReadsOnlyTo bundle.line before.left after.left after.began
  pub seen : List Observation
  pub later : List Observation
  pub observations_are : bundle.observations ≡ seen ++ later
  pub log : List LogEntry
  pub own : List LogEntry
  pub entries : AreEntries (plain_pattern p) earlier log
  pub own_entries : AreEntriesOf (plain_pattern p) bundle.objects seen own
  pub text : List ℕ
  pub more : List ℕ
  pub reports : ReportsLog n x log text
  pub reports_all : ReportsLog n x (log ++ own) (text ++ more)
  pub prefix : WritesPrefix more (written_with text before.written) after.written

-- the run stopped between two bundles: the alerts of those before were reported
pub record AlertsStopBetween (p : Pattern) (n x : ℕ) (before after : Streams) : Type 0 where
  pub bundles : List BundleOf
  pub begins : HasPrefix Lines before.left bundles
  pub reports : ReportsBundles p n x bundles before.written after.written

-- what an end implies; nothing but memory, the input and the output stops the run
abbrev pub AnswersAlerts : Pattern → ℕ → ℕ → Streams → Streams → WatchEnd Infallible → Type 0
AnswersAlerts p n x before after Done = ReportsWhole p n x before after
AnswersAlerts p n x before after (Input line why) = ReportsBefore p n x before after line why
AnswersAlerts p n x before after ReadFault = ReportsTaken p n x before after
AnswersAlerts p n x before after WriteFault = AlerterStopsWithin p n x before after
AnswersAlerts p n x before after (Stopped never) = ⊥
AnswersAlerts p n x before after NoMemory = AlertsStopBetween p n x before after ⊎ AlerterStopsWithin p n x before after
