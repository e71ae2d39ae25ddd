-- The hits of each indicator in numbers, and the report with their sightings.
use Rattle.std.specs.Prelude.{◌≡◌, ◌⊎◌, ℕ, ◌+◌, min, ℤ, List, [], ◌∷◌, ◌++◌, length, codes, Option, Some, None, slice_get}
use Rattle.match_bindings.specs.BindTree.{BindTree, greatest}
use Rattle.hunt_feed.specs.declared.hunted.Hunted.{Hunted}
use Rattle.hunt_engine.specs.declared.found.Hit.{Hit}
use Rattle.hunt_engine.specs.EngineLog.{ObservationRow}
use Rattle.hunt_engine.specs.EngineAnswer.{binds_at}
use Rattle.hunt_report.specs.declared.seen.SightingInput.{SightingInput}
use Rattle.hunt_report.specs.declared.seen.TheConstants.{MAX_COUNT}
use Rattle.hunt_report.specs.Sightings.{IsSightingText}
use Rattle.hunt_report.specs.Envelope.{opened, sightings_text}
use Rattle.hunt_report.specs.declared.hit_summary.HitSummary.{HitSummary}

-- when the observation was last observed at which a binding ends
pub record EndsWhen (rows : List ObservationRow) (tree : BindTree) (time : ℤ) : Type 0 where
  pub before : ℕ
  pub number : greatest tree ≡ before + 1
  pub row : ObservationRow
  pub there : slice_get rows before ≡ Some row
  pub time_is : time ≡ row.observation.last

-- the bindings of an indicator, in the order of their last observations: how many there are, at
-- most the greatest count of a sighting, and when the first and the last of them ended
pub record IsHitSummaryOf (rows : List ObservationRow) (trees : List BindTree) (hit_summary : HitSummary) : Type 0 where
  pub count : hit_summary.count ≡ min (length trees) MAX_COUNT
  pub one : BindTree
  pub behind_it : List BindTree
  pub begins : trees ≡ one ∷ behind_it
  pub first : EndsWhen rows one hit_summary.first
  pub other : BindTree
  pub ahead_of_it : List BindTree
  pub ends : trees ≡ ahead_of_it ++ other ∷ []
  pub last : EndsWhen rows other hit_summary.last

-- the same; None where there is no binding
abbrev pub IsHitSummary : List ObservationRow → List BindTree → Option HitSummary → Type 0
IsHitSummary rows trees None = trees ≡ []
IsHitSummary rows trees (Some hit_summary) = IsHitSummaryOf rows trees hit_summary

-- what the sighting of an indicator is made of
pub record IsSeenOf (rows : List ObservationRow) (indicator : Hunted) (trees : List BindTree) (seen : SightingInput) : Type 0 where
  pub indicator_is : seen.indicator.now ≡ indicator.id
  pub created_is : seen.created ≡ indicator.created
  pub hit_summary : IsHitSummaryOf rows trees (record { count = seen.count; first = seen.first; last = seen.last })

-- the text of the sighting of an indicator
pub record IsSighting (moment : ℤ) (rows : List ObservationRow) (indicator : Hunted) (trees : List BindTree) (text : List ℕ) : Type 0 where
  pub seen : SightingInput
  pub seen_is : IsSeenOf rows indicator trees seen
  pub text_is : IsSightingText moment seen text

-- the texts of the sightings of indicators, which are in the hunted list from an index on: one for
-- each that has a hit, in order
abbrev pub AreSightings : ℤ → List ObservationRow → List Hit → ℕ → List Hunted → List (List ℕ) → Type 0
AreSightings moment rows hits place [] texts = texts ≡ []
AreSightings moment rows hits place (indicator ∷ hunted) texts =
    ((binds_at place hits ≡ []) × AreSightings moment rows hits (place + 1) hunted texts)
    ⊎ ((text : List ℕ) × (later : List (List ℕ)) × IsSighting moment rows indicator (binds_at place hits) text
    × AreSightings moment rows hits (place + 1) hunted later × (texts ≡ text ∷ later))

-- the report as a line; empty without sightings
abbrev pub report_of : List (List ℕ) → List ℕ
report_of [] = []
report_of (text ∷ texts) = sightings_text (text ∷ texts) ++ codes "\n"

-- the report, made at a moment
pub record IsReport (moment : ℤ) (rows : List ObservationRow) (hits : List Hit) (hunted : List Hunted) (text : List ℕ) : Type 0 where
  pub texts : List (List ℕ)
  pub sightings : AreSightings moment rows hits 0 hunted texts
  pub text_is : text ≡ report_of texts

-- the report up to the last sighting of the first indicators
abbrev pub begun_by : List (List ℕ) → List ℕ
begun_by [] = []
begun_by (text ∷ texts) = opened (text ∷ texts)

pub record IsReportBegun (moment : ℤ) (rows : List ObservationRow) (hits : List Hit) (hunted : List Hunted) (text : List ℕ) : Type 0 where
  pub front : List Hunted
  pub later : List Hunted
  pub hunted_are : hunted ≡ front ++ later
  pub texts : List (List ℕ)
  pub sightings : AreSightings moment rows hits 0 front texts
  pub text_is : text ≡ begun_by texts

-- the report, or such a prefix of it
abbrev pub IsReportText : ℤ → List ObservationRow → List Hit → List Hunted → List ℕ → Type 0
IsReportText moment rows hits hunted text = IsReport moment rows hits hunted text ⊎ IsReportBegun moment rows hits hunted text
