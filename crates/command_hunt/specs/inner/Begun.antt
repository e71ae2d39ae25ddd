-- For private clauses: where the indicators are known, and how a report ends.
use Rattle.std.specs.Prelude.{◌≡◌, ℕ, ℤ, List, [], ◌∷◌, Option}
use Rattle.flow_edges.specs.Flow.{written_with, WritesPrefix}
use Rattle.flow_edges.specs.Streams.{Streams}
use Rattle.serde_json.specs.Data.{Data}
use Rattle.match_input.specs.declared.mode.Mode.TheVariants.{Lines}
use Rattle.match_input.specs.Reading.{BundleOf}
use Rattle.match_run.specs.Matching.{HasPrefix}
use Rattle.match_run.specs.Reading.{ReadsOnlyTo}
use Rattle.match_run.specs.declared.watch_end.WatchEnd.{WatchEnd}
use Rattle.match_run.specs.declared.watch_end.WatchEnd.TheVariants.{Done, Input, ReadFault, WriteFault, Stopped, NoMemory}
use Rattle.hunt_feed.specs.declared.hunted.Hunted.{Hunted}
use Rattle.hunt_feed.specs.declared.hunted.Hunt.{Hunt}
use Rattle.hunt_feed.specs.Indicators.{IsHuntOf}
use Rattle.hunt_engine.specs.declared.found.Hit.{Hit}
use Rattle.hunt_engine.specs.EngineLog.{ObservationRow}
use Rattle.hunt_report.specs.declared.over_limit.OverLimit.{OverLimit}
use Rattle.hunt_report.specs.Lines.{skipped_lines}
use Rattle.hunt_report.specs.HitSummaries.{IsReport, IsReportText}
use Rattle.command_hunt.specs.Tasks.{HuntTask}

-- nothing was read
pub record IsUnreadInput (before : Streams) (left began : Option (List ℕ)) : Type 0 where
  pub left_is : left ≡ before.left
  pub began_is : began ≡ before.began

-- the first bundle was read, and no more than that
pub record IsBegun (before : Streams) (first : BundleOf) (left began : Option (List ℕ)) : Type 0 where
  pub begins : HasPrefix Lines before.left (first ∷ [])
  pub only : ReadsOnlyTo first.line before.left left began

-- the hunt of a feed is known, and what is skipped was reported
pub record HasSkipped (task : HuntTask) (before : Streams) (feed : List Data) (hunted : List Hunted) (written : Option (List ℕ)) : Type 0 where
  pub hunt : Hunt
  pub hunt_is : IsHuntOf feed task.moment hunt
  pub hunted_is : hunted ≡ hunt.hunted
  pub written_is : written ≡ written_with (skipped_lines hunt.skipped) before.written

-- what the end of a report says of what was written
abbrev pub Reports : ℤ → List ObservationRow → List Hit → List Hunted → Option (List ℕ) → Option (List ℕ) → WatchEnd OverLimit → Type 0
Reports moment rows hits hunted before now Done = (text : List ℕ) × IsReport moment rows hits hunted text × (now ≡ written_with text before)
Reports moment rows hits hunted before now WriteFault = (text : List ℕ) × IsReportText moment rows hits hunted text × WritesPrefix text before now
Reports moment rows hits hunted before now NoMemory = (text : List ℕ) × IsReportText moment rows hits hunted text × WritesPrefix text before now
Reports moment rows hits hunted before now (Input line why) = ⊥
Reports moment rows hits hunted before now ReadFault = ⊥
Reports moment rows hits hunted before now (Stopped why) = ⊥
