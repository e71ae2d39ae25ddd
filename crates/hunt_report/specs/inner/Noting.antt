-- For private clauses: the summary of each indicator, and how hits change it.
use Rattle.std.specs.Prelude.{◌≡◌, ℕ, ◌+◌, min, ℤ, ◌≤ℤ◌, List, [], ◌∷◌, set, get_or, Option, Some, None, slice_get}
use Rattle.hunt_engine.specs.declared.found.Hit.{Hit}
use Rattle.hunt_report.specs.declared.seen.TheConstants.{MAX_COUNT}
use Rattle.hunt_report.specs.declared.hit_summary.HitSummary.{HitSummary}

-- after one more binding, which ended at an observation with this last time
abbrev pub hit_summary_after : ℤ → Option HitSummary → HitSummary
hit_summary_after last None = record { count = 1; first = last; last = last }
hit_summary_after last (Some hit_summary) = record { count = min (hit_summary.count + 1) MAX_COUNT; first = hit_summary.first; last = last }

-- after a hit, which changes the summary of its indicator
abbrev pub noted : ℤ → Hit → List (Option HitSummary) → List (Option HitSummary)
noted last hit hit_summaries = set hit_summaries hit.hunted (Some (hit_summary_after last (get_or hit_summaries hit.hunted None)))

-- after all of these hits
abbrev pub all_noted : ℤ → List Hit → List (Option HitSummary) → List (Option HitSummary)
all_noted last [] hit_summaries = hit_summaries
all_noted last (hit ∷ hits) hit_summaries = all_noted last hits (noted last hit hit_summaries)

-- none was first seen after that time
abbrev pub AreBefore : ℤ → List (Option HitSummary) → Type 0
AreBefore time hit_summaries = (place : ℕ) (hit_summary : HitSummary) → slice_get hit_summaries place ≡ Some (Some hit_summary) → hit_summary.first ≤ℤ time

-- none was last seen before it was first seen
abbrev pub AreSummariesInOrder : List (Option HitSummary) → Type 0
AreSummariesInOrder hit_summaries = (place : ℕ) (hit_summary : HitSummary) → slice_get hit_summaries place ≡ Some (Some hit_summary) → hit_summary.first ≤ℤ hit_summary.last
