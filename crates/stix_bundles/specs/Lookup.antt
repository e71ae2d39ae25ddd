-- Resolution of identifiers. STIX 2.1, section 3.6: objects of one identifier are versions of one
-- object, and the one with the greatest `modified` is the latest. An object without a `modified`
-- counts as earliest. Of versions with equal `modified`, the last in the bundle counts.
use Rattle.std.specs.Prelude.{◌≡◌, ◌⊎◌, ⊤, ℕ, ◌≤◌, ℤ, ◌<ℤ◌, List, Option, Some, None, slice_get, codes}
use Rattle.serde_json.specs.Data.{Data}
use Rattle.flow_values.specs.Answers.{FindsExactly}
use Rattle.stix_ids.specs.declared.id.Id.{Id}
use Rattle.stix_ids.specs.Identifier.{IsTextOfId}
use Rattle.stix_objects.specs.declared.form.Precision.TheVariants.{Millis}
use Rattle.stix_objects.specs.Properties.{IsTimestampAt, HasId}

-- the `modified` of the object, to the millisecond at least: none if it has no such instant
-- (sections 3.2 and 2.16)
abbrev pub IsModified : Data → Option ℤ → Type 0
IsModified d when = FindsExactly (IsTimestampAt Millis (codes "modified") d) when

-- the first is earlier than the second, and none is earlier than any
abbrev pub IsEarlier : Option ℤ → Option ℤ → Type 0
IsEarlier first None = ⊥
IsEarlier None (Some second) = ⊤
IsEarlier (Some first) (Some second) = first <ℤ second

-- the object at the position has the identifier
pub record IsOf (objects : List Data) (id : Id) (at : ℕ) : Type 0 where
  pub object : Data
  pub there : slice_get objects at ≡ Some object
  pub has : HasId object id

-- the object at the position has the identifier and this `modified`
pub record IsVersionAt (objects : List Data) (id : Id) (at : ℕ) (modified : Option ℤ) : Type 0 where
  pub object : Data
  pub there : slice_get objects at ≡ Some object
  pub has : HasId object id
  pub when : IsModified object modified

-- the position of the identifier's latest version: each other is earlier, or as late and at no
-- later position
pub record IsLatest (objects : List Data) (id : Id) (at : ℕ) : Type 0 where
  pub modified : Option ℤ
  pub version : IsVersionAt objects id at modified
  pub latest : (other : ℕ) (when : Option ℤ) → IsVersionAt objects id other when
      → IsEarlier when modified ⊎ ((when ≡ modified) × (other ≤ at))

-- the position that a text resolves to: the latest version of its identifier, and none without a
-- version
abbrev pub ResolvesTo : List Data → List ℕ → Option ℕ → Type 0
ResolvesTo objects text None = (id : Id) (at : ℕ) → IsTextOfId text id → ¬ IsOf objects id at
ResolvesTo objects text (Some at) = (id : Id) × IsTextOfId text id × IsLatest objects id at
