-- What an object path selects (STIX 2.1, section 9.7) from an object of a bundle: as a list, in
-- order, and as a relation. A property name leads to a property. From the text of a reference,
-- whose property name ends in `_ref` or `_refs`, it leads to a property of the referenced object.
use Rattle.std.specs.Prelude.{◌≡◌, ◌⊎◌, ℕ, List, [], ◌∷◌, ◌++◌, Option, Some, None, MatchOption, Contains, slice_get, option_to_list, codes}
use Rattle.std.specs.Option.{option_map_or}
use Rattle.serde_json.specs.Data.{Data}
use Rattle.serde_json.specs.Find.{get, as_str, as_array}
use Rattle.flow_values.specs.Answers.{FindsExactly}
use Rattle.stix_json.specs.Properties.{property_text}
use Rattle.stix_bundles.specs.Bundle.{items_in_order}
use Rattle.stix_bundles.specs.Lookup.{ResolvesTo}
use Rattle.pattern_types.specs.declared.path.Path.{Path}
use Rattle.pattern_types.specs.declared.path.Step.{Step}
use Rattle.pattern_types.specs.declared.path.Step.TheVariants.{Name, Place, Each}

-- the name ends in the suffix
abbrev pub EndsIn : List ℕ → List ℕ → Type 0
EndsIn suffix name = (front : List ℕ) × (name ≡ front ++ suffix)

-- the last property name before a step is one of a reference, or of a list of references
abbrev pub IsReference : Option (List ℕ) → Type 0
IsReference None = ⊥
IsReference (Some name) = EndsIn (codes "_ref") name ⊎ EndsIn (codes "_refs") name

-- the text of a value under such a name refers to the object at the position
pub record RefersTo (objects : List Data) (last : Option (List ℕ)) (value : Data) (at : ℕ) : Type 0 where
  pub named : IsReference last
  pub text : List ℕ
  pub is_text : as_str value ≡ Some text
  pub means : ResolvesTo objects text (Some at)

-- a name leads to the property of an object, or of the object that a text refers to
pub data LeadsTo (objects : List Data) (last : Option (List ℕ)) (name : List ℕ) (value : Data) : Data → Type 0 where
  by_property : {found : Data} → get name value ≡ Some found → LeadsTo objects last name value found
  by_reference : {at : ℕ} {object found : Data} → RefersTo objects last value at → slice_get objects at ≡ Some object
      → get name object ≡ Some found → LeadsTo objects last name value found

-- the members of a list; anything else has none
abbrev pub members : Data → List Data
members value = option_map_or items_in_order (as_array value) []

-- what one step selects from a value; `last` is the last property name before it
abbrev pub StepSelects : List Data → Option (List ℕ) → Step → Data → List Data → Type 0
StepSelects objects last (Name name) value values = (found : Option Data)
    × FindsExactly (LeadsTo objects last name value) found × (values ≡ option_to_list found)
StepSelects objects last (Place n) value values = values ≡ option_to_list (slice_get (members value) n)
StepSelects objects last Each value values = values ≡ members value

-- what one step reaches from a value; `last` is the last property name before it
abbrev pub StepReaches : List Data → Option (List ℕ) → Step → Data → Data → Type 0
StepReaches objects last (Name name) value next = LeadsTo objects last name value next
StepReaches objects last (Place n) value next = slice_get (members value) n ≡ Some next
StepReaches objects last Each value next = Contains (members value) next

-- the last property name after a step
abbrev pub last_name : Option (List ℕ) → Step → Option (List ℕ)
last_name last (Name name) = Some name
last_name last (Place n) = last
last_name last Each = last

-- what is selected from each of these, concatenated
abbrev pub Joined : (Data → List Data → Type 0) → List Data → List Data → Type 0
Joined Selects [] values = values ≡ []
Joined Selects (d ∷ ds) values = (own rest : List Data) × Selects d own × Joined Selects ds rest × (values ≡ own ++ rest)

-- what the steps select
abbrev pub StepsSelect : List Data → Option (List ℕ) → List Step → Data → List Data → Type 0
StepsSelect objects last [] value values = values ≡ value ∷ []
StepsSelect objects last (step ∷ steps) value values = (next : List Data) × StepSelects objects last step value next
    × Joined (StepsSelect objects (last_name last step) steps) next values

-- what the steps reach
abbrev pub Reaches : List Data → Option (List ℕ) → List Step → Data → Data → Type 0
Reaches objects last [] value found = found ≡ value
Reaches objects last (step ∷ steps) value found = (next : Data) × StepReaches objects last step value next
    × Reaches objects (last_name last step) steps next found

-- the object at the position, which has the path's type
pub record IsRoot (objects : List Data) (root : ℕ) (kind : List ℕ) (object : Data) : Type 0 where
  pub there : slice_get objects root ≡ Some object
  pub typed : property_text (codes "type") object ≡ Some kind

-- what a path selects from the object at a position: nothing where that has another type
abbrev pub Selects : List Data → ℕ → Path → List Data → Type 0
Selects objects root path values = (found : Option Data) × FindsExactly (IsRoot objects root path.kind) found
    × MatchOption found (values ≡ []) (λ object. StepsSelect objects None path.steps object values)

-- a path selects the value from the object at a position
pub record IsSelected (objects : List Data) (root : ℕ) (path : Path) (value : Data) : Type 0 where
  pub object : Data
  pub is_root : IsRoot objects root path.kind object
  pub reached : Reaches objects None path.steps object value
