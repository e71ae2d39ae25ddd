-- For private clauses and the invariant of a bundle: the contents of its index.
use Rattle.std.specs.Prelude.{◌≡◌, ⊤, ◌≤◌, ◌&&◌, ◌==◌, ℕ, ℤ, List, [], length, All, Bool, bytes_eq, if◌then◌else◌, Option, Some, None, option_and_then, slice_get}
use Rattle.std.specs.Ordering.{nat_cmp}
use Rattle.std.specs.BTreeMap.{get, get_by_text}
use Rattle.serde_json.specs.Data.{Data}
use Rattle.stix_ids.specs.declared.id.Id.{Id}
use Rattle.stix_json.specs.Ordered.{IsOrdered}
use Rattle.stix_bundles.specs.declared.index.Index.{Index}
use Rattle.stix_bundles.specs.declared.index.Index.TheVariants.{Unindexed, Many}
use Rattle.stix_bundles.specs.declared.positions.Positions.{Positions}
use Rattle.stix_bundles.specs.declared.outline.TheConstants.{MAX_OBJECTS}
use Rattle.stix_bundles.specs.Bundle.{AreAllBreaks}
use Rattle.stix_bundles.specs.Lookup.{IsModified, IsEarlier, IsOf, IsLatest}

-- the position that the map has for an identifier
abbrev pub position_of : Positions → Id → Option ℕ
position_of positions id = option_and_then (λ numbers. get nat_cmp numbers id.number) (get_by_text positions.kinds id.kind)

-- whether two identifiers are equal
abbrev pub same_id : Id → Id → Bool
same_id id other = bytes_eq id.kind other.kind && (id.number == other.number)

-- the map has this position for the identifier, and is unchanged for all others
abbrev pub PutsPosition : Positions → Positions → Id → ℕ → Type 0
PutsPosition before after id at = (other : Id) → position_of after other ≡ (if same_id id other then Some at else position_of before other)

-- the object at the position was modified later than this time
abbrev pub Supersedes : List Data → Option ℕ → Option ℤ → Type 0
Supersedes objects None time = ⊥
Supersedes objects (Some at) time = (d : Data) × (modified : Option ℤ) × (slice_get objects at ≡ Some d)
    × IsModified d modified × IsEarlier time modified

-- the correct result of a lookup: the position of the latest version, or none if there is none
abbrev pub IsPositionOf : List Data → Id → Option ℕ → Type 0
IsPositionOf objects id None = (at : ℕ) → ¬ IsOf objects id at
IsPositionOf objects id (Some at) = IsLatest objects id at

-- the positions of the latest versions of the objects
abbrev pub ArePositionsOf : List Data → Positions → Type 0
ArePositionsOf objects positions = (id : Id) → IsPositionOf objects id (position_of positions id)

-- the correct index: nothing for a few objects, else the positions of their latest versions
abbrev pub IsIndexOfObjects : List Data → Index → Type 0
IsIndexOfObjects objects Unindexed = ⊤
IsIndexOfObjects objects (Many positions) = ArePositionsOf objects positions

-- the invariant of a bundle's objects and its index
pub record IsIndexed (objects : List Data) (index : Index) : Type 0 where
  pub counted : length objects ≤ MAX_OBJECTS
  pub unbroken : AreAllBreaks 0 objects []
  pub ordered : All IsOrdered objects
  pub indexed : IsIndexOfObjects objects index
