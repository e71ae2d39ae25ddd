-- For private clauses: the hunt among the kept indicators seen so far.
use Rattle.std.specs.Prelude.{◌≡◌, ◌⊎◌, ℕ, ℤ, ◌<ℤ◌, ◌≤ℤ◌, List, [], ◌∷◌, ◌++◌, All, Contains, IsTrue, Some, IfSome}
use Rattle.serde_json.specs.Data.{Data}
use Rattle.stix_ids.specs.declared.id.Id.{Id}
use Rattle.pattern_types.specs.declared.pattern.Pattern.{Pattern}
use Rattle.pattern_reader.specs.declared.pattern_refusal.PatternRefusal.{PatternRefusal}
use Rattle.pattern_reader.specs.declared.pattern_refusal.PatternRefusal.TheVariants.{TooLong as TooLongText}
use Rattle.pattern_reader.specs.Read.{IsReadAs, IsRefusedAs}
use Rattle.hunt_feed.specs.declared.hunted.Hunted.{Hunted}
use Rattle.hunt_feed.specs.declared.hunted.Skipped.{Skipped}
use Rattle.hunt_feed.specs.declared.hunted.Hunt.{Hunt}
use Rattle.hunt_feed.specs.declared.kept.Kept.{Kept}
use Rattle.hunt_feed.specs.declared.kept.KeptPattern.{KeptPattern}
use Rattle.hunt_feed.specs.declared.kept.KeptPattern.TheVariants.{Unread, TooLong, Dropped}
use Rattle.hunt_feed.specs.declared.version.Version.{Version}
use Rattle.hunt_feed.specs.Indicators.{IsCandidate, IsHunted, IsSkippedIndicator, IsAscending, hunted_places, skipped_places}
use Rattle.hunt_feed.specs.Gathering.{indicator_id, known_in, kept_places}

-- it is the latest version, and none is revoked
abbrev pub IsLast : List (ℕ × Version) → Kept → Type 0
IsLast versions kept =
    (version : Version) × (known_in versions kept.number ≡ Some version) × (version.at ≡ kept.at) × (¬ IsTrue version.revoked)

-- it is valid at the moment
abbrev pub IsValidIndicator : ℤ → Kept → Type 0
IsValidIndicator moment kept = (kept.from ≤ℤ moment) × IfSome kept.until (λ until. moment <ℤ until)

-- the pattern that a kept one is read as, and why it is refused
abbrev pub IsKeptReadAs : KeptPattern → Pattern → Type 0
IsKeptReadAs (Unread text) pattern = IsReadAs text pattern
IsKeptReadAs TooLong pattern = ⊥
IsKeptReadAs Dropped pattern = ⊥

abbrev pub IsKeptRefusedAs : KeptPattern → PatternRefusal → Type 0
IsKeptRefusedAs (Unread text) refusal = IsRefusedAs text refusal
IsKeptRefusedAs TooLong refusal = refusal ≡ TooLongText
IsKeptRefusedAs Dropped refusal = ⊥

-- a kept indicator as a hunted one, and as a skipped one
pub record IsReadOf (kept : Kept) (hunted : Hunted) : Type 0 where
  pub at : hunted.at ≡ kept.at
  pub id : hunted.id ≡ indicator_id kept.number
  pub created : hunted.created ≡ kept.created
  pub read : IsKeptReadAs kept.pattern hunted.pattern

pub record IsRefusedOf (kept : Kept) (skipped : Skipped) : Type 0 where
  pub at : skipped.at ≡ kept.at
  pub id : skipped.id ≡ indicator_id kept.number
  pub refused : IsKeptRefusedAs kept.pattern skipped.refusal

-- it is added to the hunted or the skipped ones, or its pattern was dropped
abbrev pub IsClassified : Kept → Hunt → Hunt → Type 0
IsClassified kept before after =
    ((hunted : Hunted) × IsReadOf kept hunted × (after.hunted ≡ before.hunted ++ hunted ∷ []) × (after.skipped ≡ before.skipped))
    ⊎ ((skipped : Skipped) × IsRefusedOf kept skipped × (after.hunted ≡ before.hunted) × (after.skipped ≡ before.skipped ++ skipped ∷ []))
    ⊎ ((kept.pattern ≡ Dropped) × (after ≡ before))

-- the hunt of the candidates among the indicators seen so far
pub record IsHuntAmong (objects : List Data) (moment : ℤ) (seen : List Kept) (hunt : Hunt) : Type 0 where
  pub hunted : All (IsHunted objects moment) hunt.hunted
  pub skipped : All (IsSkippedIndicator objects moment) hunt.skipped
  pub all : (at : ℕ) (id : Id) (object : Data) → IsCandidate objects moment at id object → Contains (kept_places seen) at
      → Contains (hunted_places hunt) at ⊎ Contains (skipped_places hunt) at
  pub hunted_ascend : IsAscending (hunted_places hunt)
  pub skipped_ascend : IsAscending (skipped_places hunt)
  pub hunted_seen : All (Contains (kept_places seen)) (hunted_places hunt)
  pub skipped_seen : All (Contains (kept_places seen)) (skipped_places hunt)
