-- Bundles (STIX 2.1, section 8): an object of the type `bundle`, with an identifier of that kind
-- and an optional list of objects. Here it has at most MAX_OBJECTS of them, and each meets the
-- rules of its type.
use Rattle.std.specs.Prelude.{◌≡◌, ◌≢◌, ◌⊎◌, ℕ, ◌+◌, ◌≤◌, ◌<◌, List, [], ◌∷◌, ◌++◌, length, map, All, slice_get, Some, MatchOption, IsSome, codes}
use Rattle.serde_json.specs.Data.{Data, Items, no_items, item}
use Rattle.serde_json.specs.Find.{get, as_array, as_object}
use Rattle.stix_ids.specs.declared.id.Id.{Id}
use Rattle.stix_json.specs.Walk.{path_text, index_part}
use Rattle.stix_objects.specs.declared.rule_break.Break.{Break}
use Rattle.stix_json.specs.Properties.{property_text}
use Rattle.stix_objects.specs.Breaks.{AreBreaksOf}
use Rattle.stix_bundles.specs.declared.outline.TheConstants.{MAX_OBJECTS}
use Rattle.stix_bundles.specs.declared.object_break.ObjectBreak.{ObjectBreak}
use Rattle.stix_bundles.specs.declared.refusal.BundleRefusal.{BundleRefusal}
use Rattle.stix_bundles.specs.declared.refusal.BundleRefusal.TheVariants.{NotBundle, Breaks, NoMemory}
use Rattle.stix_objects.specs.Properties.{HasId}

-- the items of a list, one after another
abbrev pub items_in_order : Items → List Data
items_in_order no_items = []
items_in_order (item d ds) = d ∷ items_in_order ds

abbrev pub IsObject : Data → Type 0
IsObject d = IsSome (as_object d)

-- its type is `bundle`
abbrev pub HasBundleType : Data → Type 0
HasBundleType d = property_text (codes "type") d ≡ Some (codes "bundle")

-- its identifier is of the kind `bundle`
abbrev pub IsIdentified : Data → Type 0
IsIdentified d = (id : Id) × HasId d id × (id.kind ≡ codes "bundle")

-- a list, with these members: 1 to MAX_OBJECTS of them
pub record IsListOf (value : Data) (members : List Data) : Type 0 where
  pub items : Items
  pub list : as_array value ≡ Some items
  pub members_are : members ≡ items_in_order items
  pub some : 1 ≤ length members
  pub not_too_many : length members ≤ MAX_OBJECTS

-- its objects: none if the property is absent, else the members of a list
abbrev pub HasObjects : Data → List Data → Type 0
HasObjects d objects = MatchOption (get (codes "objects") d) (objects ≡ []) (λ value. IsListOf value objects)

-- a bundle's outline: the requirements on the bundle apart from those on its objects
pub record IsOutlined (d : Data) (objects : List Data) : Type 0 where
  pub is_object : IsObject d
  pub typed : HasBundleType d
  pub identified : IsIdentified d
  pub listed_are : HasObjects d objects
  pub members : All IsObject objects

-- the first of the members that isn't an object
pub record IsFirstNoObject (objects : List Data) (at : ℕ) : Type 0 where
  pub member : Data
  pub there : slice_get objects at ≡ Some member
  pub no_object : ¬ IsObject member
  pub before : (n : ℕ) (other : Data) → n < at → slice_get objects n ≡ Some other → IsObject other

-- the requirement that fails first, by the parts of the path to its value
abbrev pub FailsAt : Data → List (List ℕ) → Type 0
FailsAt d [] = ¬ IsObject d
FailsAt d (name ∷ []) = IsObject d × (
    ((name ≡ codes "type") × (¬ HasBundleType d))
    ⊎ ((name ≡ codes "id") × HasBundleType d × (¬ IsIdentified d))
    ⊎ ((name ≡ codes "objects") × HasBundleType d × IsIdentified d × ((objects : List Data) → ¬ HasObjects d objects)))
FailsAt d (name ∷ place ∷ []) = (name ≡ codes "objects") × IsObject d × HasBundleType d × IsIdentified d
    × ((objects : List Data) × HasObjects d objects × ((at : ℕ) × (place ≡ index_part at) × IsFirstNoObject objects at))
FailsAt d (name ∷ place ∷ more ∷ parts) = ⊥

-- the path leads to the first requirement that fails
abbrev pub IsNoBundle : Data → List ℕ → Type 0
IsNoBundle d path = (parts : List (List ℕ)) × FailsAt d parts × (path ≡ path_text parts)

-- a violation by the object at this position
abbrev pub break_of_object : ℕ → Break → ObjectBreak
break_of_object at found = record { object = at; found = found }

-- the violations of the objects from a position on, object by object
abbrev pub AreAllBreaks : ℕ → List Data → List ObjectBreak → Type 0
AreAllBreaks at [] breaks = breaks ≡ []
AreAllBreaks at (d ∷ ds) breaks = (own : List Break) × (rest : List ObjectBreak)
    × AreBreaksOf d own × AreAllBreaks (at + 1) ds rest × (breaks ≡ map (break_of_object at) own ++ rest)

-- the objects of a bundle, which meet their rules
pub record IsBundle (d : Data) (objects : List Data) : Type 0 where
  pub outline : IsOutlined d objects
  pub unbroken : AreAllBreaks 0 objects []

-- why a value isn't a valid bundle
abbrev pub IsBundleRefused : Data → BundleRefusal → Type 0
IsBundleRefused d (NotBundle path) = IsNoBundle d path
IsBundleRefused d (Breaks breaks) = (breaks ≢ []) × ((objects : List Data) × IsOutlined d objects × AreAllBreaks 0 objects breaks)
IsBundleRefused d NoMemory = ⊥
