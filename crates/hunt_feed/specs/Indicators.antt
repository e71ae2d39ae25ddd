-- Which indicators of some objects are hunted at a moment (STIX 2.1, section 4.7; versions and `revoked`: section 3.6).
-- The objects break no rule.
use Rattle.std.specs.Prelude.{◌≡◌, ◌⊎◌, ℕ, ◌<◌, ℤ, ◌<ℤ◌, ◌≤ℤ◌, List, map, All, Contains, slice_get, Some, true, codes}
use Rattle.serde_json.specs.Data.{Data, boolean}
use Rattle.serde_json.specs.Find.{get}
use Rattle.stix_ids.specs.declared.id.Id.{Id}
use Rattle.stix_json.specs.Properties.{property_text}
use Rattle.stix_objects.specs.declared.form.Precision.TheVariants.{Any, Millis}
use Rattle.stix_objects.specs.Properties.{IsTimestampAt, HasId}
use Rattle.stix_bundles.specs.Lookup.{IsLatest}
use Rattle.pattern_reader.specs.Read.{IsReadAs, IsRefusedAs}
use Rattle.hunt_feed.specs.declared.hunted.Hunted.{Hunted}
use Rattle.hunt_feed.specs.declared.hunted.Skipped.{Skipped}
use Rattle.hunt_feed.specs.declared.hunted.Hunt.{Hunt}

-- it is an indicator, and its pattern is one of STIX
pub record IsStixIndicator (d : Data) : Type 0 where
  pub typed : property_text (codes "type") d ≡ Some (codes "indicator")
  pub language : property_text (codes "pattern_type") d ≡ Some (codes "stix")

-- it has `revoked` set
abbrev pub Revokes : Data → Type 0
Revokes d = get (codes "revoked") d ≡ Some (boolean true)

-- a version of the identifier is revoked
pub record IsRevokedId (objects : List Data) (id : Id) : Type 0 where
  pub at : ℕ
  pub object : Data
  pub there : slice_get objects at ≡ Some object
  pub has : HasId object id
  pub revokes : Revokes object

-- the latest version of an indicator with a pattern of STIX, of which no version is revoked
pub record IsCurrent (objects : List Data) (at : ℕ) (id : Id) (object : Data) : Type 0 where
  pub there : slice_get objects at ≡ Some object
  pub has : HasId object id
  pub indicator : IsStixIndicator object
  pub latest : IsLatest objects id at
  pub not_revoked : ¬ IsRevokedId objects id

-- it is valid from a time not after the moment, and until a time after it, if it has one
pub record IsValidAt (moment : ℤ) (d : Data) : Type 0 where
  pub from : ℤ
  pub begins : IsTimestampAt Any (codes "valid_from") d from
  pub begun : from ≤ℤ moment
  pub lasts : (until : ℤ) → IsTimestampAt Any (codes "valid_until") d until → moment <ℤ until

-- the object at the position may be hunted at the moment
pub record IsCandidate (objects : List Data) (moment : ℤ) (at : ℕ) (id : Id) (object : Data) : Type 0 where
  pub current : IsCurrent objects at id object
  pub valid : IsValidAt moment object

-- the hunted indicator is a candidate with this creation time, whose text parses to this pattern
pub record IsHunted (objects : List Data) (moment : ℤ) (hunted : Hunted) : Type 0 where
  pub object : Data
  pub candidate : IsCandidate objects moment hunted.at hunted.id object
  pub created : IsTimestampAt Millis (codes "created") object hunted.created
  pub text : List ℕ
  pub told : property_text (codes "pattern") object ≡ Some text
  pub read : IsReadAs text hunted.pattern

-- the skipped indicator is a candidate whose text is refused for this reason
pub record IsSkippedIndicator (objects : List Data) (moment : ℤ) (skipped : Skipped) : Type 0 where
  pub object : Data
  pub candidate : IsCandidate objects moment skipped.at skipped.id object
  pub text : List ℕ
  pub told : property_text (codes "pattern") object ≡ Some text
  pub refused : IsRefusedAs text skipped.refusal

-- strictly ascending
abbrev pub IsAscending : List ℕ → Type 0
IsAscending numbers = (j k m n : ℕ) → j < k → slice_get numbers j ≡ Some m → slice_get numbers k ≡ Some n → m < n

-- the positions of the hunted indicators, and of the skipped ones
abbrev pub hunted_places : Hunt → List ℕ
hunted_places hunt = map (λ h. h.at) hunt.hunted

abbrev pub skipped_places : Hunt → List ℕ
skipped_places hunt = map (λ s. s.at) hunt.skipped

-- the hunt of the objects at the moment: each candidate is hunted or skipped, once, ordered by
-- position, and nothing else is
pub record IsHuntOf (objects : List Data) (moment : ℤ) (hunt : Hunt) : Type 0 where
  pub hunted : All (IsHunted objects moment) hunt.hunted
  pub skipped : All (IsSkippedIndicator objects moment) hunt.skipped
  pub all : (at : ℕ) (id : Id) (object : Data) → IsCandidate objects moment at id object
      → Contains (hunted_places hunt) at ⊎ Contains (skipped_places hunt) at
  pub hunted_ascend : IsAscending (hunted_places hunt)
  pub skipped_ascend : IsAscending (skipped_places hunt)
