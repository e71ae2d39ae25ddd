-- For private clauses: the state kept of the versions before a position, for each identifier by its
-- group.
use Rattle.std.specs.Prelude.{◌≡◌, ◌↔◌, ◌⊎◌, ℕ, ◌<◌, ℤ, ◌<ℤ◌, List, Bool, false, not, ◌||◌, IsTrue, Option, Some, None}
use Rattle.std.specs.Ordering.{nat_cmp}
use Rattle.std.specs.BTreeMap.{get}
use Rattle.serde_json.specs.Data.{Data}
use Rattle.stix_ids.specs.declared.id.Id.{Id}
use Rattle.stix_bundles.specs.Lookup.{IsLatest}
use Rattle.stix_versions.specs.declared.version.Version.{Version}
use Rattle.stix_versions.specs.declared.created.FirstCreated.{FirstCreated}
use Rattle.stix_versions.specs.declared.created.Created.{Created}
use Rattle.stix_versions.specs.declared.revoked.Revoked.{Revoked}
use Rattle.stix_versions.specs.Versions.{IsVersion, IsRevoked}
use Rattle.stix_versions.specs.inner.Version.{IsVersionAs, NoneBefore, IsFirstValue}

-- the object at the position is a version of the identifier with this `created`
pub record WasCreated (objects : List Data) (id : Id) (at : ℕ) (created : ℤ) : Type 0 where
  pub modified : ℤ
  pub object : Data
  pub version : IsVersion objects at id created modified object

-- the state kept of the `created` times of an identifier's versions before the position
abbrev pub IsCreatedBefore : List Data → ℕ → Id → Option FirstCreated → Type 0
IsCreatedBefore objects end id None = NoneBefore ℤ (WasCreated objects id) end
IsCreatedBefore objects end id (Some first) = IsFirstValue ℤ (WasCreated objects id) end first.created first.changed

-- the state is right for each identifier
abbrev pub AreCreatedBefore : List Data → ℕ → Created → Type 0
AreCreatedBefore objects end kept = (id : Id) (group : ℕ) → IsLatest objects id group → IsCreatedBefore objects end id (get nat_cmp kept.groups group)

-- the state after one more `created`
abbrev pub IsNextCreated : Option FirstCreated → ℤ → FirstCreated → Type 0
IsNextCreated None created next = next ≡ record { created = created; changed = false }
IsNextCreated (Some first) created next = (same : Bool) × (IsTrue same ↔ (first.created ≡ created))
    × (next ≡ record { created = first.created; changed = first.changed || not same })

-- the object at the position is a revoked version of the identifier with this `modified`
pub record WasRevoked (objects : List Data) (id : Id) (at : ℕ) (modified : ℤ) : Type 0 where
  pub created : ℤ
  pub object : Data
  pub version : IsVersion objects at id created modified object
  pub revoked : IsRevoked object

-- the object at the position is this version, and revoked
pub record IsRevokedAs (objects : List Data) (at : ℕ) (seen : Version) : Type 0 where
  pub is : IsVersionAs objects at seen
  pub revoked : IsRevoked is.object

-- the object at the position isn't a revoked version
abbrev pub IsNotRevoked : List Data → ℕ → Type 0
IsNotRevoked objects at = (id : Id) (modified : ℤ) → ¬ WasRevoked objects id at modified

-- the earliest `modified` of a revoked version before the position
pub record IsFirstRevoked (objects : List Data) (end : ℕ) (id : Id) (first : ℤ) : Type 0 where
  pub place : ℕ
  pub before : place < end
  pub was : WasRevoked objects id place first
  pub least : (other : ℕ) (modified : ℤ) → other < end → WasRevoked objects id other modified → ¬ (modified <ℤ first)

abbrev pub IsRevokedBefore : List Data → ℕ → Id → Option ℤ → Type 0
IsRevokedBefore objects end id None = NoneBefore ℤ (WasRevoked objects id) end
IsRevokedBefore objects end id (Some first) = IsFirstRevoked objects end id first

-- the state is right for each identifier
abbrev pub AreRevokedBefore : List Data → ℕ → Revoked → Type 0
AreRevokedBefore objects end kept = (id : Id) (group : ℕ) → IsLatest objects id group → IsRevokedBefore objects end id (get nat_cmp kept.groups group)

-- the earliest time after one more
abbrev pub IsNextRevoked : Option ℤ → ℤ → ℤ → Type 0
IsNextRevoked None modified next = next ≡ modified
IsNextRevoked (Some first) modified next = ((first <ℤ modified) × (next ≡ first)) ⊎ ((¬ (first <ℤ modified)) × (next ≡ modified))
