-- The sighting of an indicator (STIX 2.1, section 5.2). It has the indicator's UUID and creation
-- time, so that each run of a hunt makes a version of the same object.
use Rattle.std.specs.Prelude.{◌≡◌, ◌⊎◌, ℕ, ◌%◌, ◌==◌, min, ℤ, pos, ◌≤ℤ◌, ◌<ℤ◌, ◌+ℤ◌, unsigned_abs, List, [], ◌∷◌, codes, if◌then◌else◌}
use Rattle.serde_json.specs.Data.{Data, number, string, object}
use Rattle.serde_json.specs.Find.{of_integer}
use Rattle.serde_json.specs.Written.{compact_text}
use Rattle.stix_ids.specs.declared.id.Id.{Id}
use Rattle.stix_ids.specs.Identifier.{IsCanonicalIdText as IsCanonicalIdOf}
use Rattle.stix_json.specs.DataOf.{Member, members_of}
use Rattle.stix_times.specs.Writing.{IsCanonicalTextOf, IsTextOfDigits, IsWhole}
use Rattle.hunt_report.specs.declared.seen.SightingInput.{SightingInput}
use Rattle.hunt_report.specs.declared.seen.TheConstants.{MAX_COUNT}

-- what the input of a sighting has to satisfy: the creation time is a whole number of microseconds,
-- and the last binding didn't end before the first
pub record IsSightingInput (seen : SightingInput) : Type 0 where
  pub kind : seen.indicator.now.kind ≡ codes "indicator"
  pub created : IsWhole 1000 seen.created
  pub in_order : seen.first ≤ℤ seen.last

-- the digits of a second of a version: three where that loses nothing, otherwise six
abbrev pub version_digits : ℤ → ℕ
version_digits instant = if unsigned_abs instant % 1_000_000 == 0 then 3 else 6

-- the text of a version's instant
abbrev pub IsVersionInstantText : ℤ → List ℕ → Type 0
IsVersionInstantText instant text = IsTextOfDigits (version_digits instant) text instant

-- the moment rounded down to milliseconds
pub record IsRoundedDown (moment rounded : ℤ) : Type 0 where
  pub whole : IsWhole 1_000_000 rounded
  pub not_later : rounded ≤ℤ moment
  pub near : moment <ℤ (rounded +ℤ pos 1_000_000)

-- the moment rounded down, but not before the creation time
pub record IsModifiedAt (created moment modified : ℤ) : Type 0 where
  pub rounded : ℤ
  pub is_rounded : IsRoundedDown moment rounded
  pub after_created : created ≤ℤ modified
  pub after_rounded : rounded ≤ℤ modified
  pub one_of_both : (modified ≡ created) ⊎ (modified ≡ rounded)

-- a property with a text
abbrev pub text_member : List ℕ → List ℕ → Member
text_member name text = record { name = name; value = string text }

-- a sighting with that count, and these texts of its times, its identifier and the indicator's
abbrev pub sighting_data : ℕ → List ℕ → List ℕ → List ℕ → List ℕ → List ℕ → List ℕ → Data
sighting_data count created first id last modified of = object (members_of (
    record { name = codes "count"; value = number (of_integer (pos count)) }
    ∷ text_member (codes "created") created
    ∷ text_member (codes "first_seen") first
    ∷ text_member (codes "id") id
    ∷ text_member (codes "last_seen") last
    ∷ text_member (codes "modified") modified
    ∷ text_member (codes "sighting_of_ref") of
    ∷ text_member (codes "spec_version") (codes "2.1")
    ∷ text_member (codes "type") (codes "sighting")
    ∷ []))

-- the identifier of the sighting of an indicator
abbrev pub sighting_id : Id → Id
sighting_id indicator = record { kind = codes "sighting"; number = indicator.number }

-- the sighting of this input, made at the moment
pub record IsSightingOf (moment : ℤ) (seen : SightingInput) (d : Data) : Type 0 where
  pub created : List ℕ
  pub created_is : IsVersionInstantText seen.created created
  pub instant : ℤ
  pub modified_at : IsModifiedAt seen.created moment instant
  pub modified : List ℕ
  pub modified_is : IsVersionInstantText instant modified
  pub first : List ℕ
  pub first_is : IsCanonicalTextOf first seen.first
  pub last : List ℕ
  pub last_is : IsCanonicalTextOf last seen.last
  pub id : List ℕ
  pub id_is : IsCanonicalIdOf id (sighting_id seen.indicator.now)
  pub of : List ℕ
  pub of_is : IsCanonicalIdOf of seen.indicator.now
  pub is : d ≡ sighting_data (min seen.count MAX_COUNT) created first id last modified of

-- its text
pub record IsSightingText (moment : ℤ) (seen : SightingInput) (text : List ℕ) : Type 0 where
  pub data_is : Data
  pub sighting : IsSightingOf moment seen data_is
  pub written : text ≡ compact_text data_is
