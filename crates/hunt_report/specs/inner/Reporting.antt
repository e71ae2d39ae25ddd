-- For private clauses: what a report says about each indicator, by its summary.
use Rattle.std.specs.Prelude.{◌≡◌, ◌⊎◌, ⊤, ℕ, ℤ, ◌≤ℤ◌, Bool, true, false, List, [], ◌∷◌, ◌++◌, codes, Option, Some, None}
use Rattle.flow_edges.specs.Flow.{WritesPrefix}
use Rattle.match_run.specs.Buffered.{IsBuffered}
use Rattle.hunt_feed.specs.declared.hunted.Hunted.{Hunted}
use Rattle.hunt_report.specs.declared.seen.SightingInput.{SightingInput}
use Rattle.hunt_report.specs.Sightings.{IsSightingText}
use Rattle.hunt_report.specs.declared.hit_summary.HitSummary.{HitSummary}
use Rattle.hunt_report.specs.HitSummaries.{begun_by}

-- the text of the sighting of an indicator with this summary
pub record IsTextOfSighting (moment : ℤ) (indicator : Hunted) (hit_summary : HitSummary) (text : List ℕ) : Type 0 where
  pub seen : SightingInput
  pub indicator_is : seen.indicator.now ≡ indicator.id
  pub created_is : seen.created ≡ indicator.created
  pub count_is : seen.count ≡ hit_summary.count
  pub first_is : seen.first ≡ hit_summary.first
  pub last_is : seen.last ≡ hit_summary.last
  pub text_is : IsSightingText moment seen text

-- its last hit wasn't before its first
abbrev pub IsHitSummaryInOrder : Option HitSummary → Type 0
IsHitSummaryInOrder None = ⊤
IsHitSummaryInOrder (Some hit_summary) = hit_summary.first ≤ℤ hit_summary.last

-- one text of an indicator with hits, and none of any other
abbrev pub ReportsHitSummary : ℤ → Hunted → Option HitSummary → List (List ℕ) → Type 0
ReportsHitSummary moment indicator None texts = texts ≡ []
ReportsHitSummary moment indicator (Some hit_summary) texts = (text : List ℕ) × IsTextOfSighting moment indicator hit_summary text × (texts ≡ text ∷ [])

-- those of some indicators, in order
abbrev pub ReportsHitSummaries : ℤ → List Hunted → List (Option HitSummary) → List (List ℕ) → Type 0
ReportsHitSummaries moment [] [] texts = texts ≡ []
ReportsHitSummaries moment (indicator ∷ hunted) (hit_summary ∷ hit_summaries) texts = (own : List (List ℕ)) × (later : List (List ℕ))
    × ReportsHitSummary moment indicator hit_summary own × ReportsHitSummaries moment hunted hit_summaries later × (texts ≡ own ++ later)
ReportsHitSummaries moment _ _ texts = ⊥

-- whether there is a text
abbrev pub is_begun : List (List ℕ) → Bool
is_begun [] = false
is_begun (text ∷ texts) = true

-- the text before the next sighting
abbrev pub mark_of : Bool → List ℕ
mark_of false = codes "{\"objects\":["
mark_of true = codes ","

-- the text after the sightings
abbrev pub report_end : Bool → List ℕ
report_end false = []
report_end true = codes "]}\n"

-- the text about these indicators is written or buffered
pub record ReportsSoFar (moment : ℤ) (hunted : List Hunted) (hit_summaries : List (Option HitSummary)) (begun : Bool) (pending : List ℕ)
    (first now : Option (List ℕ)) : Type 0 where
  pub texts : List (List ℕ)
  pub reports : ReportsHitSummaries moment hunted hit_summaries texts
  pub begun_is : begun ≡ is_begun texts
  pub way : IsBuffered (begun_by texts) pending first now

-- a prefix of the text about the first of them is written
pub record ReportsPart (moment : ℤ) (hunted : List Hunted) (hit_summaries : List (Option HitSummary)) (first now : Option (List ℕ)) : Type 0 where
  pub front : List Hunted
  pub later : List Hunted
  pub hunted_are : hunted ≡ front ++ later
  pub seen : List (Option HitSummary)
  pub unseen : List (Option HitSummary)
  pub hit_summaries_are : hit_summaries ≡ seen ++ unseen
  pub texts : List (List ℕ)
  pub reports : ReportsHitSummaries moment front seen texts
  pub prefix : WritesPrefix (begun_by texts) first now

-- one more text is written or buffered, if the indicator has hits
pub record AddsHitSummary (moment : ℤ) (indicator : Hunted) (hit_summary : Option HitSummary) (texts : List (List ℕ)) (begun : Bool) (pending : List ℕ)
    (first now : Option (List ℕ)) : Type 0 where
  pub more : List (List ℕ)
  pub reports : ReportsHitSummary moment indicator hit_summary more
  pub begun_is : begun ≡ is_begun (texts ++ more)
  pub way : IsBuffered (begun_by (texts ++ more)) pending first now

-- a prefix of the texts is written, with the one more
pub record CutsHitSummary (moment : ℤ) (indicator : Hunted) (hit_summary : Option HitSummary) (texts : List (List ℕ)) (first now : Option (List ℕ)) : Type 0 where
  pub more : List (List ℕ)
  pub reports : ReportsHitSummary moment indicator hit_summary more
  pub prefix : WritesPrefix (begun_by (texts ++ more)) first now

-- with it, or without
abbrev pub BreaksAtHitSummary : ℤ → Hunted → Option HitSummary → List (List ℕ) → Option (List ℕ) → Option (List ℕ) → Type 0
BreaksAtHitSummary moment indicator hit_summary texts first now = WritesPrefix (begun_by texts) first now ⊎ CutsHitSummary moment indicator hit_summary texts first now
