-- For private clauses: versions as the code stores them, and the state kept of those before a
-- position.
use Rattle.std.specs.Prelude.{◌≡◌, ◌≢◌, ℕ, ◌<◌, ℤ, List, Bool, true, false}
use Rattle.serde_json.specs.Data.{Data}
use Rattle.stix_ids.specs.declared.id.Id.{Id}
use Rattle.stix_bundles.specs.Lookup.{IsLatest}
use Rattle.stix_versions.specs.declared.version.Version.{Version}
use Rattle.stix_versions.specs.Versions.{IsVersion}

-- the object at the position is this version; its group is the position of the latest version of
-- its identifier
pub record IsVersionAs (objects : List Data) (at : ℕ) (seen : Version) : Type 0 where
  pub id : Id
  pub object : Data
  pub version : IsVersion objects at id seen.created seen.modified object
  pub grouped : IsLatest objects id seen.group

-- the object at the position isn't a version
abbrev pub IsNoVersion : List Data → ℕ → Type 0
IsNoVersion objects at = (id : Id) (created modified : ℤ) (object : Data) → ¬ IsVersion objects at id created modified object

-- no earlier position has a value
abbrev pub NoneBefore : (V : Type 0) → (ℕ → V → Type 0) → ℕ → Type 0
NoneBefore V Has end = (place : ℕ) (value : V) → place < end → ¬ Has place value

-- an earlier position has another value
pub record HasOther (V : Type 0) (Has : ℕ → V → Type 0) (end : ℕ) (value : V) : Type 0 where
  pub place : ℕ
  pub other : V
  pub before : place < end
  pub has : Has place other
  pub differs : other ≢ value

-- an earlier position has the value, and the flag says whether another one has another
pub record IsFirstValue (V : Type 0) (Has : ℕ → V → Type 0) (end : ℕ) (value : V) (differs : Bool) : Type 0 where
  pub place : ℕ
  pub before : place < end
  pub has : Has place value
  pub same : differs ≡ false → (other : ℕ) (another : V) → other < end → Has other another → another ≡ value
  pub different : differs ≡ true → HasOther V Has end value
