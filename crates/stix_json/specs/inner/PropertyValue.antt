-- For private clauses: the properties of an object, with lists checked item by item.
use Rattle.std.specs.Prelude.{◌≡◌, ◌≢◌, ⊤, ℕ, Bool, true, false, List, Option, None, Some}
use Rattle.json.specs.Token.{Token}
use Rattle.serde_json.specs.Data.{Data, Items, Members, object, array}
use Rattle.serde_json.specs.Find.{get_member}
use Rattle.stix_json.specs.declared.limits.TheConstants.{MAX_LEVELS}
use Rattle.stix_json.specs.declared.property_value.Property.{Property}
use Rattle.stix_json.specs.declared.property_value.PropertyValue.{PropertyValue}
use Rattle.stix_json.specs.declared.property_value.PropertyValue.TheVariants.{List as ListOf, Value}
use Rattle.stix_json.specs.declared.refusal.JsonRefusal.{JsonRefusal}
use Rattle.stix_json.specs.declared.refusal.JsonRefusal.TheVariants.{NotJson, TooDeep, NotWhole, Null, OutOfRange, NotList, NoMemory}
use Rattle.stix_json.specs.Entries.{AreEntriesFor}
use Rattle.stix_json.specs.Reading.{IsValueOf, HasNoValue}
use Rattle.stix_json.specs.inner.Insertion.{last_named}
use Rattle.stix_json.specs.inner.Checking.{IsCheckedAs}

abbrev pub property_name : Property → List ℕ
property_name property = property.name

-- a list with its entries, or another checked value
abbrev pub IsPropertyValue : Data → PropertyValue → Type 0
IsPropertyValue d (ListOf entries) = (list : Items) × (d ≡ array list) × AreEntriesFor list entries
IsPropertyValue d (Value checked) = ((list : Items) → d ≢ array list) × IsCheckedAs MAX_LEVELS d checked

abbrev pub MayBePropertyValue : Option Data → Option Property → Type 0
MayBePropertyValue None None = ⊤
MayBePropertyValue None (Some property) = ⊥
MayBePropertyValue (Some d) None = ⊥
MayBePropertyValue (Some d) (Some property) = IsPropertyValue d property.property_value

-- the last property of each name has the value found by the name
abbrev pub HoldsProperties : Members → List Property → Type 0
HoldsProperties ms properties = (q : List ℕ) → MayBePropertyValue (get_member q ms) (last_named property_name q properties)

abbrev pub IsNoObject : Data → Type 0
IsNoObject d = (ms : Members) → d ≢ object ms

-- why bytes yield no properties; memory may run out at any time
abbrev pub IsNotReadAsProperties : List ℕ → JsonRefusal → Type 0
IsNotReadAsProperties bytes NotJson = HasNoValue bytes
IsNotReadAsProperties bytes (TooDeep path) = ⊥
IsNotReadAsProperties bytes (NotWhole path) = ⊥
IsNotReadAsProperties bytes (Null path) = ⊥
IsNotReadAsProperties bytes (OutOfRange path) = ⊥
IsNotReadAsProperties bytes NotList = (d : Data) × IsValueOf bytes d × IsNoObject d
IsNotReadAsProperties bytes NoMemory = ⊤

-- the token that opens a list, and the one that opens an object
abbrev pub is_begin_array : Token → Bool
is_begin_array Token.begin_object = false
is_begin_array Token.end_object = false
is_begin_array Token.begin_array = true
is_begin_array Token.end_array = false
is_begin_array (Token.key s) = false
is_begin_array (Token.string s) = false
is_begin_array (Token.number s) = false
is_begin_array (Token.boolean b) = false
is_begin_array Token.null = false
is_begin_array Token.bad = false

abbrev pub is_begin_object : Token → Bool
is_begin_object Token.begin_object = true
is_begin_object Token.end_object = false
is_begin_object Token.begin_array = false
is_begin_object Token.end_array = false
is_begin_object (Token.key s) = false
is_begin_object (Token.string s) = false
is_begin_object (Token.number s) = false
is_begin_object (Token.boolean b) = false
is_begin_object Token.null = false
is_begin_object Token.bad = false
