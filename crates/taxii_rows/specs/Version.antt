-- The version of an object (STIX 2.1, sections 3.2 and 3.6; TAXII 2.1, section 3.4): its
-- `modified`, else its `created`, in microseconds since 1970. An observable of a known type has
-- none (STIX 2.1, section 6), nor has an object without both.
use Rattle.std.specs.Prelude.{◌≡◌, ◌⊎◌, ℕ, ℤ, pos, ◌*ℤ◌, List, Some, codes}
use Rattle.serde_json.specs.Data.{Data}
use Rattle.stix_json.specs.Properties.{property_text}
use Rattle.stix_objects.specs.declared.groups.Group.{Group}
use Rattle.stix_objects.specs.declared.groups.Group.TheVariants.{Observable}
use Rattle.stix_objects.specs.declared.form.Precision.TheVariants.{Millis}
use Rattle.stix_objects.specs.Types.{group_of, group_before_of}
use Rattle.stix_objects.specs.Properties.{IsTimestampAt}
use Rattle.taxii_rows.specs.declared.type_set.TypeSet.{TypeSet}
use Rattle.taxii_rows.specs.declared.type_set.TypeSet.TheVariants.{First, Second}

-- the group of a kind: the first set has the types that were known at first, the second those that
-- are known now
abbrev pub group_under : TypeSet → List ℕ → Group
group_under First kind = group_before_of kind
group_under Second kind = group_of kind

-- its type is that of an observable of the set
abbrev pub IsObservableOf : TypeSet → Data → Type 0
IsObservableOf set d = (kind : List ℕ) × (property_text (codes "type") d ≡ Some kind) × (group_under set kind ≡ Observable)

-- the property is a timestamp of that instant, to the millisecond at least
abbrev pub IsTimeAt : List ℕ → Data → ℤ → Type 0
IsTimeAt name d instant = IsTimestampAt Millis name d instant

-- the property is no such timestamp
abbrev pub HasNoTimeAt : List ℕ → Data → Type 0
HasNoTimeAt name d = (instant : ℤ) → ¬ IsTimeAt name d instant

-- the instant is that of `modified`, else that of `created`
abbrev pub IsVersionTime : Data → ℤ → Type 0
IsVersionTime d instant =
    IsTimeAt (codes "modified") d instant
    ⊎ (HasNoTimeAt (codes "modified") d × IsTimeAt (codes "created") d instant)

-- the object has that version, where the observables of the set have none
pub record HasVersion (set : TypeSet) (object : Data) (version : ℤ) : Type 0 where
  pub versioned : ¬ IsObservableOf set object
  pub time : IsVersionTime object (version *ℤ pos 1000)

-- the object has no version
abbrev pub IsUndated : TypeSet → Data → Type 0
IsUndated set d =
    IsObservableOf set d ⊎ (HasNoTimeAt (codes "modified") d × HasNoTimeAt (codes "created") d)
