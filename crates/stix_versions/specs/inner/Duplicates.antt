-- For private clauses: the state kept of versions with one `modified`.
use Rattle.std.specs.Prelude.{◌≡◌, ◌↔◌, ℕ, ℤ, List, Bool, false, not, ◌||◌, IsTrue, Option, Some, None, slice_get}
use Rattle.std.specs.Ordering.{nat_cmp, int_cmp, ordering_then}
use Rattle.std.specs.BTreeMap.{get}
use Rattle.serde_json.specs.Data.{Data}
use Rattle.stix_ids.specs.declared.id.Id.{Id}
use Rattle.stix_bundles.specs.Lookup.{IsLatest}
use Rattle.stix_versions.specs.declared.duplicates.FirstDuplicate.{FirstDuplicate}
use Rattle.stix_versions.specs.declared.duplicates.Duplicates.{Duplicates}
use Rattle.stix_versions.specs.Versions.{IsVersion}
use Rattle.stix_versions.specs.inner.Version.{NoneBefore, IsFirstValue}

-- the object at the position is a version of the identifier with this `modified`
pub record IsDuplicate (objects : List Data) (id : Id) (modified : ℤ) (at : ℕ) (object : Data) : Type 0 where
  pub created : ℤ
  pub version : IsVersion objects at id created modified object

-- the first object among the earlier versions, and whether another one differs from it
pub record IsFirstDuplicate (objects : List Data) (end : ℕ) (id : Id) (modified : ℤ) (first : FirstDuplicate) : Type 0 where
  pub object : Data
  pub there : slice_get objects first.at ≡ Some object
  pub kept : IsFirstValue Data (IsDuplicate objects id modified) end object first.differs

abbrev pub IsDuplicateBefore : List Data → ℕ → Id → ℤ → Option FirstDuplicate → Type 0
IsDuplicateBefore objects end id modified None = NoneBefore Data (IsDuplicate objects id modified) end
IsDuplicateBefore objects end id modified (Some first) = IsFirstDuplicate objects end id modified first

-- the entry of the map for a group and an instant
abbrev pub duplicate_at : Duplicates → ℕ → ℤ → Option FirstDuplicate
duplicate_at duplicates group modified = get (λ x y. ordering_then (nat_cmp x.0 y.0) (int_cmp x.1 y.1)) duplicates.instants (group, modified)

-- the map is right for each identifier and instant
abbrev pub AreDuplicatesBefore : List Data → ℕ → Duplicates → Type 0
AreDuplicatesBefore objects end duplicates = (id : Id) (group : ℕ) (modified : ℤ) → IsLatest objects id group
    → IsDuplicateBefore objects end id modified (duplicate_at duplicates group modified)

-- the state after one more object, at this position
abbrev pub IsNextDuplicate : List Data → Option FirstDuplicate → Data → ℕ → FirstDuplicate → Type 0
IsNextDuplicate objects None d at next = next ≡ record { at = at; differs = false }
IsNextDuplicate objects (Some first) d at next = (same : Bool) × (IsTrue same ↔ (slice_get objects first.at ≡ Some d))
    × (next ≡ record { at = first.at; differs = first.differs || not same })
