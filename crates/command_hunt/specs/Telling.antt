-- The output of a run over an input, by how it ended. The indicators are among the objects of a
-- file, if the arguments name one; else the first bundle holds them. The log is that of all
-- bundles, including the first one.
use Rattle.std.specs.Prelude.{◌≡◌, ◌⊎◌, ℕ, List, [], ◌∷◌, ◌++◌, Option, Some, None, MatchOption}
use Rattle.flow_edges.specs.Flow.{IsAtEnd, written_with, WritesPrefix}
use Rattle.flow_edges.specs.Streams.{Streams}
use Rattle.serde_json.specs.Data.{Data}
use Rattle.stix_bundles.specs.declared.observation.Observation.{Observation}
use Rattle.match_input.specs.declared.mode.Mode.TheVariants.{Lines}
use Rattle.match_input.specs.declared.rule.InputRule.{InputRule}
use Rattle.match_input.specs.Reading.{BundleOf, InputEnd, Whole, Refused}
use Rattle.match_run.specs.Matching.{ReadsInput, HasPrefix, StopsIn, ReadsTaken}
use Rattle.match_run.specs.Reading.{ReadsOnlyTo}
use Rattle.match_run.specs.declared.watch_end.WatchEnd.{WatchEnd}
use Rattle.match_run.specs.declared.watch_end.WatchEnd.TheVariants.{Done, Input, ReadFault, WriteFault, Stopped, NoMemory}
use Rattle.hunt_feed.specs.declared.hunted.Hunt.{Hunt}
use Rattle.hunt_feed.specs.Indicators.{IsHuntOf}
use Rattle.hunt_engine.specs.declared.found.Hit.{Hit}
use Rattle.hunt_engine.specs.EngineLog.{ObservationRow, engine_row}
use Rattle.hunt_engine.specs.EngineAnswer.{IsFirstOverLimit}
use Rattle.hunt_report.specs.declared.over_limit.OverLimit.{OverLimit}
use Rattle.hunt_report.specs.Rows.{rows_over, rows_of}
use Rattle.hunt_report.specs.Hits.{AreHits, AreNeverOverLimit}
use Rattle.hunt_report.specs.Lines.{skipped_lines, hits_text}
use Rattle.hunt_report.specs.HitSummaries.{IsReport, IsReportText}
use Rattle.hunt_report.specs.Hunting.{patterns_of}
use Rattle.command_hunt.specs.Tasks.{HuntTask}

-- ---- the hunt

-- the objects of which some are indicators: those of the file, if any, and else of the first
-- bundle; none are known before that has come
abbrev pub feed_of : Option (List Data) → List BundleOf → Option (List Data)
feed_of (Some objects) bundles = Some objects
feed_of None [] = None
feed_of None (first ∷ later) = Some first.objects

-- the hunt of a feed over the rows of a log: which indicators are hunted and which are skipped, and
-- the hits
pub record HuntsRows (task : HuntTask) (feed : List Data) (rows : List ObservationRow) : Type 0 where
  pub hunt : Hunt
  pub hunt_is : IsHuntOf feed task.moment hunt
  pub hits : List Hit
  pub hits_are : AreHits (patterns_of hunt.hunted) rows hits
  pub within_limit : AreNeverOverLimit (patterns_of hunt.hunted) task.retained_limit rows

-- the skipped indicators and then the hits, a line each
abbrev pub reported_of : {task : HuntTask} → {feed : List Data} → {rows : List ObservationRow} → HuntsRows task feed rows → List ℕ
reported_of hunts = skipped_lines hunts.hunt.skipped ++ hits_text hunts.hunt.hunted hunts.hits

-- ---- what is reported of the bundles of an input, where a file holds these objects, or there is none

module _ (task : HuntTask) (file : Option (List Data)) where
  -- nothing, where no objects are known
  abbrev pub ReportsHits : List BundleOf → List ℕ → Type 0
  ReportsHits bundles text = MatchOption (feed_of file bundles) (text ≡ [])
      (λ feed. (hunts : HuntsRows task feed (rows_of bundles)) × (text ≡ reported_of hunts))

  -- the same, and at the end the report of what was seen
  abbrev pub ReportsAll : List BundleOf → List ℕ → Type 0
  ReportsAll bundles text = MatchOption (feed_of file bundles) (text ≡ [])
      (λ feed. (hunts : HuntsRows task feed (rows_of bundles)) × (report : List ℕ)
      × IsReport task.moment (rows_of bundles) hunts.hits hunts.hunt.hunted report × (text ≡ reported_of hunts ++ report))

  -- by how the input ends: a refused line leaves the report out
  abbrev pub ReportsTo : InputEnd → List BundleOf → List ℕ → Type 0
  ReportsTo Whole bundles text = ReportsAll bundles text
  ReportsTo (Refused line why) bundles text = ReportsHits bundles text

-- ---- what an end says

module _ (task : HuntTask) (file : Option (List Data)) (before after : Streams) where
  -- the input was read to its end, and all was reported
  pub record HuntsWhole : Type 0 where
    pub bundles : List BundleOf
    pub reading : ReadsInput Lines before.left bundles Whole
    pub text : List ℕ
    pub reports : ReportsAll task file bundles text
    pub text_is : after.written ≡ written_with text before.written
    pub drained : IsAtEnd after.left

  -- it was read up to the first line that is refused, and the hits before it were reported
  pub record HuntsBefore (line : ℕ) (why : InputRule) : Type 0 where
    pub bundles : List BundleOf
    pub reading : ReadsInput Lines before.left bundles (Refused line why)
    pub text : List ℕ
    pub reports : ReportsHits task file bundles text
    pub text_is : after.written ≡ written_with text before.written
    pub little : StopsIn line before.left after.left

  -- a read failed: the hits of the whole lines in the bytes taken were reported
  pub record HuntsTaken : Type 0 where
    pub bundles : List BundleOf
    pub begins : HasPrefix Lines before.left bundles
    pub text : List ℕ
    pub reports : ReportsHits task file bundles text
    pub text_is : after.written ≡ written_with text before.written
    pub taken : ReadsTaken bundles before.left after.left

  -- the run stopped at the first observation at which a pattern exceeds its limit, and read no
  -- further than its line: the hits before it were written
  pub record HuntStopsOverLimit (why : OverLimit) : Type 0 where
    pub earlier : List BundleOf
    pub bundle : BundleOf
    pub begins : HasPrefix Lines before.left (earlier ++ bundle ∷ [])
    pub only : ReadsOnlyTo bundle.line before.left after.left after.began
    pub seen : List Observation
    pub observation : Observation
    pub later : List Observation
    pub observations_are : bundle.observations ≡ seen ++ observation ∷ later
    pub feed : List Data
    pub feed_is : feed_of file (earlier ++ bundle ∷ []) ≡ Some feed
    pub hunts : HuntsRows task feed (rows_of earlier ++ rows_over bundle.objects seen)
    pub over_limit : IsFirstOverLimit (patterns_of hunts.hunt.hunted) task.retained_limit
        ((rows_of earlier ++ rows_over bundle.objects seen) ++ engine_row observation bundle.objects ∷ []) why.hunted why.number why.retained_limit
    pub text_is : after.written ≡ written_with (reported_of hunts) before.written

  -- the run stopped within a bundle, and read no further than its line: what is reported of the
  -- bundles before was, and of what is reported of its first observations a prefix was written
  pub record HuntStopsWithin : Type 0 where
    pub earlier : List BundleOf
    pub bundle : BundleOf
    pub begins : HasPrefix Lines before.left (earlier ++ bundle ∷ [])
    pub only : ReadsOnlyTo bundle.line before.left after.left after.began
    pub seen : List Observation
    pub later : List Observation
    pub observations_are : bundle.observations ≡ seen ++ later
    pub feed : List Data
    pub feed_is : feed_of file (earlier ++ bundle ∷ []) ≡ Some feed
    pub hunts : HuntsRows task feed (rows_of earlier ++ rows_over bundle.objects seen)
    pub text : List ℕ
    pub reports : ReportsHits task file earlier text
    pub more : List ℕ
    pub more_is : reported_of hunts ≡ text ++ more
    pub prefix : WritesPrefix more (written_with text before.written) after.written

  -- the input was read to its end and its hits were reported, and of the report a prefix was
  -- written
  pub record StopsReporting : Type 0 where
    pub bundles : List BundleOf
    pub reading : ReadsInput Lines before.left bundles Whole
    pub feed : List Data
    pub feed_is : feed_of file bundles ≡ Some feed
    pub hunts : HuntsRows task feed (rows_of bundles)
    pub report : List ℕ
    pub reports : IsReportText task.moment (rows_of bundles) hunts.hits hunts.hunt.hunted report
    pub prefix : WritesPrefix report (written_with (reported_of hunts) before.written) after.written
    pub drained : IsAtEnd after.left

  -- the run stopped between two bundles: the hits of those before were reported
  pub record HuntStopsBetween : Type 0 where
    pub bundles : List BundleOf
    pub begins : HasPrefix Lines before.left bundles
    pub text : List ℕ
    pub reports : ReportsHits task file bundles text
    pub text_is : after.written ≡ written_with text before.written

  -- the objects of the file were known, and of what is skipped a prefix was reported, before
  -- anything of the input was read
  pub record StopsSkipping : Type 0 where
    pub feed : List Data
    pub file_is : file ≡ Some feed
    pub hunts : HuntsRows task feed []
    pub prefix : WritesPrefix (reported_of hunts) before.written after.written
    pub unread : (after.left ≡ before.left) × (after.began ≡ before.began)

  -- the run stopped before it had the indicators, and had written nothing
  abbrev pub StopsUnreported : Type 0
  StopsUnreported = after.written ≡ before.written

  -- what an end implies
  abbrev pub AnswersHunt : WatchEnd OverLimit → Type 0
  AnswersHunt Done = HuntsWhole
  AnswersHunt (Input line why) = HuntsBefore line why
  AnswersHunt ReadFault = HuntsTaken
  AnswersHunt WriteFault = StopsSkipping ⊎ HuntStopsWithin ⊎ StopsReporting
  AnswersHunt (Stopped why) = HuntStopsOverLimit why
  AnswersHunt NoMemory = StopsUnreported ⊎ StopsSkipping ⊎ HuntStopsBetween ⊎ HuntStopsWithin ⊎ StopsReporting
