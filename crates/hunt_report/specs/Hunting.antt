-- The observable state of a hunter, and what it writes about the bundles that it sees.
use Rattle.std.specs.Prelude.{◌≡◌, ℕ, ◌<◌, ◌^◌, List, [], ◌∷◌, ◌++◌, map, length, All, Option, Some, slice_get, codes}
use Rattle.serde_json.specs.Data.{Data}
use Rattle.stix_times.specs.Writing.{IsWhole}
use Rattle.stix_bundles.specs.declared.observation.Observation.{Observation}
use Rattle.pattern_types.specs.declared.pattern.Pattern.{Pattern}
use Rattle.pattern_types.specs.Leaves.{leaves}
use Rattle.pattern_types.specs.PlainPattern.{plain_pattern}
use Rattle.pattern_types.specs.Soundness.{IsSoundPattern}
use Rattle.match_input.specs.Reading.{BundleOf}
use Rattle.hunt_feed.specs.declared.hunted.Hunted.{Hunted}
use Rattle.hunt_engine.specs.declared.found.Hit.{Hit}
use Rattle.hunt_engine.specs.EngineLog.{ObservationRow, engine_row}
use Rattle.hunt_engine.specs.EngineState.{EngineState, EngineRepresents}
use Rattle.hunt_engine.specs.EngineAnswer.{binds_at, IsFirstOverLimit}
use Rattle.hunt_report.specs.declared.hit_summary.HitSummary.{HitSummary}
use Rattle.hunt_report.specs.declared.over_limit.OverLimit.{OverLimit}
use Rattle.hunt_report.specs.Rows.{rows_over}
use Rattle.hunt_report.specs.Hits.{AnswerRows, AreNeverOverLimit}
use Rattle.hunt_report.specs.Lines.{hits_text}
use Rattle.hunt_report.specs.HitSummaries.{IsHitSummary}

-- the observable state of a hunter
pub record HunterState : Type 0 where
  pub hunted : List Hunted
  pub engine : EngineState
  -- the summary of each indicator
  pub hit_summaries : List (Option HitSummary)

abbrev pub patterns_of : List Hunted → List Pattern
patterns_of hunted = map (λ indicator. indicator.pattern) hunted

-- an indicator that can be hunted, and of which a sighting can be made
pub record IsHuntable (indicator : Hunted) : Type 0 where
  pub kind : indicator.id.kind ≡ codes "indicator"
  pub created : IsWhole 1000 indicator.created
  pub sound : IsSoundPattern (plain_pattern indicator.pattern)
  pub narrow : leaves indicator.pattern < 2 ^ 32

-- it hunted over these rows, with these hits: its engine represents the rows, none of which exceeds
-- the limit, and it has the summary of each indicator
pub record HuntsOver (hunter : HunterState) (rows : List ObservationRow) (hits : List Hit) : Type 0 where
  pub patterns : hunter.engine.patterns ≡ patterns_of hunter.hunted
  pub engine : EngineRepresents hunter.engine rows
  pub answers : AnswerRows (patterns_of hunter.hunted) [] rows hits
  pub within_limit : AreNeverOverLimit (patterns_of hunter.hunted) hunter.engine.retained_limit rows
  pub count : length hunter.hit_summaries ≡ length hunter.hunted
  pub hit_summaries : (place : ℕ) (hit_summary : Option HitSummary) → slice_get hunter.hit_summaries place ≡ Some hit_summary → IsHitSummary rows (binds_at place hits) hit_summary

-- it hunts over some rows
pub record IsReadyHunter (hunter : HunterState) : Type 0 where
  pub huntable : All IsHuntable hunter.hunted
  pub rows : List ObservationRow
  pub hits : List Hit
  pub hunts : HuntsOver hunter rows hits

-- after any rows it took some more, and wrote their hits
pub record TakesRows (rows : List ObservationRow) (before after : HunterState) (text : List ℕ) : Type 0 where
  pub hunted : after.hunted ≡ before.hunted
  pub retained_limit : after.engine.retained_limit ≡ before.engine.retained_limit
  pub takes : (earlier : List ObservationRow) (hits : List Hit) → HuntsOver before earlier hits
      → (more : List Hit) × HuntsOver after (earlier ++ rows) (hits ++ more) × (text ≡ hits_text before.hunted more)

-- it saw a bundle
abbrev pub HunterSeesBundle : HunterState → BundleOf → HunterState → List ℕ → Type 0
HunterSeesBundle before bundle after text = TakesRows (rows_over bundle.objects bundle.observations) before after text

-- the text that it wrote about the first of some observations
pub record TakesFirst (objects : List Data) (observations : List Observation) (before : HunterState) (text : List ℕ) : Type 0 where
  pub seen : List Observation
  pub later : List Observation
  pub observations_are : observations ≡ seen ++ later
  pub after : HunterState
  pub takes : TakesRows (rows_over objects seen) before after text

-- the same for the observations of a bundle
abbrev pub BeginsBundle : HunterState → BundleOf → List ℕ → Type 0
BeginsBundle before bundle text = TakesFirst bundle.objects bundle.observations before text

-- the text that it wrote about the observations before the first one at which a pattern exceeds the
-- limit
pub record TakesUpTo (objects : List Data) (observations : List Observation) (before : HunterState) (why : OverLimit) (text : List ℕ) : Type 0 where
  pub seen : List Observation
  pub observation : Observation
  pub later : List Observation
  pub observations_are : observations ≡ seen ++ observation ∷ later
  pub after : HunterState
  pub takes : TakesRows (rows_over objects seen) before after text
  pub over_limit : (earlier : List ObservationRow) (hits : List Hit) → HuntsOver before earlier hits
      → IsFirstOverLimit (patterns_of before.hunted) before.engine.retained_limit ((earlier ++ rows_over objects seen) ++ engine_row observation objects ∷ [])
      why.hunted why.number why.retained_limit

-- the same for the observations of a bundle
abbrev pub StopsInBundle : HunterState → BundleOf → OverLimit → List ℕ → Type 0
StopsInBundle before bundle why text = TakesUpTo bundle.objects bundle.observations before why text
