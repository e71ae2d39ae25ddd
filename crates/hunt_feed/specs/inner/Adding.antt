-- For private clauses: adding one more object.
use Rattle.std.specs.Prelude.{◌≡◌, ◌≢◌, ◌⊎◌, ◌↔◌, ℕ, ℤ, ◌<ℤ◌, List, ◌++◌, ◌==◌, ◌||◌, IsTrue, Option, Some, None, option_to_list, slice_get, slice_set, if◌then◌else◌, codes}
use Rattle.serde_json.specs.Data.{Data}
use Rattle.stix_json.specs.Properties.{property_text}
use Rattle.stix_objects.specs.declared.form.Precision.TheVariants.{Any, Millis}
use Rattle.stix_objects.specs.Properties.{IsTimestampAt, HasId}
use Rattle.pattern_reader.specs.declared.pattern_refusal.PatternRefusal.TheVariants.{TooLong as TooLongText}
use Rattle.pattern_reader.specs.Read.{IsRefusedAs}
use Rattle.hunt_feed.specs.declared.kept.Kept.{Kept}
use Rattle.hunt_feed.specs.declared.kept.KeptPattern.{KeptPattern}
use Rattle.hunt_feed.specs.declared.kept.KeptPattern.TheVariants.{Unread, TooLong, Dropped}
use Rattle.hunt_feed.specs.declared.version.Version.{Version}
use Rattle.hunt_feed.specs.Indicators.{Revokes, IsStixIndicator}
use Rattle.hunt_feed.specs.Gathering.{Gathered, IsKeptAs, indicator_id, known_in}

-- its type is `indicator`
abbrev pub IsIndicator : Data → Type 0
IsIndicator d = property_text (codes "type") d ≡ Some (codes "indicator")

-- the properties of an indicator that breaks no rule
pub record HasFields (d : Data) : Type 0 where
  pub number : ℕ
  pub has : HasId d (indicator_id number)
  pub created : ℤ
  pub created_is : IsTimestampAt Millis (codes "created") d created
  pub modified : ℤ
  pub modified_is : IsTimestampAt Millis (codes "modified") d modified
  pub from : ℤ
  pub from_is : IsTimestampAt Any (codes "valid_from") d from
  pub pattern : List ℕ
  pub pattern_is : property_text (codes "pattern") d ≡ Some pattern

-- the version information of an indicator
pub record IsIndicatorVersion (d : Data) (version : Version) : Type 0 where
  pub modified : IsTimestampAt Millis (codes "modified") d version.modified
  pub revoked : IsTrue version.revoked ↔ Revokes d

-- the versions with one more: the later one is the latest, and of equally late ones the new one
abbrev pub IsNextVersion : Option Version → Version → Version → Type 0
IsNextVersion None new next = next ≡ new
IsNextVersion (Some known) new next = (next.revoked ≡ (known.revoked || new.revoked))
    × (((new.modified <ℤ known.modified) × (next.at ≡ known.at) × (next.modified ≡ known.modified))
    ⊎ ((¬ (new.modified <ℤ known.modified)) × (next.at ≡ new.at) × (next.modified ≡ new.modified)))

-- it is kept where the new version is the latest, none is revoked, and its pattern is a STIX
-- pattern
abbrev pub IsToKeep : Data → ℕ → ℕ → Version → Option Kept → Type 0
IsToKeep d at number next None = ¬ ((next.at ≡ at) × (¬ IsTrue next.revoked) × IsStixIndicator d)
IsToKeep d at number next (Some kept) = IsKeptAs d kept × (kept.at ≡ at) × (kept.pattern ≢ Dropped)

-- what is kept of a pattern with this text
abbrev pub IsKeptPattern : List ℕ → KeptPattern → Type 0
IsKeptPattern text (Unread kept) = kept ≡ text
IsKeptPattern text TooLong = IsRefusedAs text TooLongText
IsKeptPattern text Dropped = ⊥

-- these are now the versions of the indicator with this UUID, and perhaps one more is kept
pub record PutsVersion (before after : Gathered) (number : ℕ) (next : Version) (kept : Option Kept) : Type 0 where
  pub count : after.count ≡ before.count
  pub kept_are : after.kept ≡ before.kept ++ option_to_list kept
  pub versions : (other : ℕ) → known_in after.versions other ≡ (if number == other then Some next else known_in before.versions other)

-- an indicator whose pattern was dropped
abbrev pub without_pattern : Kept → Kept
without_pattern kept = record { number = kept.number; created = kept.created; from = kept.from; until = kept.until; pattern = Dropped; at = kept.at }

-- the pattern of the indicator at this position is dropped, if anything is
abbrev pub DropsAt : ℕ → List Kept → List Kept → Type 0
DropsAt at before after = (after ≡ before)
    ⊎ ((place : ℕ) × (kept : Kept) × (slice_get before place ≡ Some kept) × (kept.at ≡ at) × (after ≡ slice_set before place (without_pattern kept)))

-- the version that was the latest can't be hunted any more
abbrev pub IsOutdated : Version → Version → Type 0
IsOutdated known next = (¬ (next.at ≡ known.at)) ⊎ IsTrue next.revoked

-- then its pattern is dropped, if anything is
abbrev pub DropsOutdated : Option Version → Version → Gathered → Gathered → Type 0
DropsOutdated known next before after = (after ≡ before)
    ⊎ ((version : Version) × (known ≡ Some version) × IsOutdated version next
    × (after.count ≡ before.count) × (after.versions ≡ before.versions) × DropsAt version.at before.kept after.kept)

-- what an indicator changes
pub record AddsIndicator (before after : Gathered) (d : Data) : Type 0 where
  pub number : ℕ
  pub has : HasId d (indicator_id number)
  pub new : Version
  pub at : new.at ≡ before.count
  pub version : IsIndicatorVersion d new
  pub next : Version
  pub next_is : IsNextVersion (known_in before.versions number) new next
  pub kept : Option Kept
  pub to_keep : IsToKeep d before.count number next kept
  pub put : Gathered
  pub puts : PutsVersion before put number next kept
  pub drops : DropsOutdated (known_in before.versions number) next put after
