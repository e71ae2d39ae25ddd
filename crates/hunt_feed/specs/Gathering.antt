-- What is kept of objects that come one by one, enough to know at the end which to hunt.
use Rattle.std.specs.Prelude.{◌≡◌, ◌↔◌, ⊤, ℕ, List, map, length, All, Contains, IsTrue, slice_get, Option, Some, None, codes}
use Rattle.std.specs.Ordering.{nat_cmp}
use Rattle.std.specs.BTreeMap.{is_at}
use Rattle.std.specs.Map.{lookup}
use Rattle.flow_values.specs.Answers.{FindsExactly}
use Rattle.serde_json.specs.Data.{Data}
use Rattle.stix_ids.specs.declared.id.Id.{Id}
use Rattle.stix_json.specs.Properties.{property_text}
use Rattle.stix_objects.specs.declared.form.Precision.TheVariants.{Any, Millis}
use Rattle.stix_objects.specs.Properties.{IsTimestampAt, HasId}
use Rattle.stix_bundles.specs.Lookup.{IsOf, IsLatest}
use Rattle.pattern_reader.specs.declared.pattern_refusal.PatternRefusal.TheVariants.{TooLong as TooLongText}
use Rattle.pattern_reader.specs.Read.{IsRefusedAs}
use Rattle.hunt_feed.specs.declared.kept.Kept.{Kept}
use Rattle.hunt_feed.specs.declared.kept.KeptPattern.{KeptPattern}
use Rattle.hunt_feed.specs.declared.kept.KeptPattern.TheVariants.{Unread, TooLong, Dropped}
use Rattle.hunt_feed.specs.declared.version.Version.{Version}
use Rattle.hunt_feed.specs.Indicators.{IsStixIndicator, IsRevokedId, IsCurrent, IsAscending}

pub record Gathered : Type 0 where
  -- how many objects came
  pub count : ℕ
  -- what a hunt needs of the indicators that may be hunted, in the order in which they came
  pub kept : List Kept
  -- for each indicator, by its UUID as a number, what is known of its versions
  pub versions : List (ℕ × Version)

-- the identifier of an indicator with this UUID
abbrev pub indicator_id : ℕ → Id
indicator_id number = record { kind = codes "indicator"; number = number }

-- what is known of the versions of an indicator
abbrev pub known_in : List (ℕ × Version) → ℕ → Option Version
known_in versions number = lookup (is_at (nat_cmp number)) versions

-- the position of the latest version, when it was modified, and whether some version is revoked
pub record IsLatestVersionAs (objects : List Data) (id : Id) (version : Version) : Type 0 where
  pub latest : IsLatest objects id version.at
  pub modified : latest.modified ≡ Some version.modified
  pub revoked : IsTrue version.revoked ↔ IsRevokedId objects id

-- the same; None where the objects have no version of it
abbrev pub IsKnown : List Data → Id → Option Version → Type 0
IsKnown objects id None = (at : ℕ) → ¬ IsOf objects id at
IsKnown objects id (Some version) = IsLatestVersionAs objects id version

-- what is kept of its pattern: the text; that it is too long; or nothing
abbrev pub IsToldAs : Data → KeptPattern → Type 0
IsToldAs d (Unread text) = property_text (codes "pattern") d ≡ Some text
IsToldAs d TooLong = (text : List ℕ) × (property_text (codes "pattern") d ≡ Some text) × IsRefusedAs text TooLongText
IsToldAs d Dropped = ⊤

-- what is kept of the indicator: its identifier, its times and its pattern
pub record IsKeptAs (object : Data) (kept : Kept) : Type 0 where
  pub has : HasId object (indicator_id kept.number)
  pub indicator : IsStixIndicator object
  pub created : IsTimestampAt Millis (codes "created") object kept.created
  pub from : IsTimestampAt Any (codes "valid_from") object kept.from
  pub until : FindsExactly (IsTimestampAt Any (codes "valid_until") object) kept.until
  pub told : IsToldAs object kept.pattern

-- it is kept of the object at its position, whose pattern is dropped only if it isn't current
abbrev pub IsKeptOf : List Data → Kept → Type 0
IsKeptOf objects kept = (object : Data) × (slice_get objects kept.at ≡ Some object) × IsKeptAs object kept
    × (kept.pattern ≡ Dropped → (id : Id) (value : Data) → ¬ IsCurrent objects kept.at id value)

-- the positions of the kept indicators
abbrev pub kept_places : List Kept → List ℕ
kept_places kept = map (λ k. k.at) kept

-- this was gathered from these objects
pub record GathersFor (gathered : Gathered) (objects : List Data) : Type 0 where
  pub counted : gathered.count ≡ length objects
  pub versions : (number : ℕ) → IsKnown objects (indicator_id number) (known_in gathered.versions number)
  pub kept : All (IsKeptOf objects) gathered.kept
  pub all : (at : ℕ) (id : Id) (object : Data) → IsCurrent objects at id object → Contains (kept_places gathered.kept) at
  pub ascend : IsAscending (kept_places gathered.kept)
