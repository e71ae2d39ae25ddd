-- The list at a property of an object, with each entry checked on its own.
use Rattle.std.specs.Prelude.{◌≡◌, ⊤, ℕ, List, [], ◌∷◌, Option, Some, None}
use Rattle.serde_json.specs.Data.{Data, null, boolean, number, string, array, object, Items, no_items, item}
use Rattle.serde_json.specs.Find.{get_member}
use Rattle.stix_json.specs.declared.entry.Entry.{Entry}
use Rattle.stix_json.specs.declared.refusal.JsonRefusal.{JsonRefusal}
use Rattle.stix_json.specs.declared.refusal.JsonRefusal.TheVariants.{NotJson, TooDeep, NotWhole, Null, OutOfRange, NotList, NoMemory}
use Rattle.stix_json.specs.Reading.{IsValueOf, HasNoValue, IsEntryFor}

-- the items, if the value is a list
abbrev pub list_of : Data → Option Items
list_of null = None
list_of (boolean b) = None
list_of (number n) = None
list_of (string s) = None
list_of (array ds) = Some ds
list_of (object ms) = None

-- an absent value counts as an empty list
abbrev pub list_or_none : Option Data → Option Items
list_or_none None = Some no_items
list_or_none (Some d) = list_of d

-- the items at a property: of an object with a list there, or without the property
abbrev pub list_under : List ℕ → Data → Option Items
list_under name null = None
list_under name (boolean b) = None
list_under name (number n) = None
list_under name (string s) = None
list_under name (array ds) = None
list_under name (object ms) = list_or_none (get_member name ms)

-- each entry is the outcome of checking its item on its own
abbrev pub AreEntriesFor : Items → List Entry → Type 0
AreEntriesFor no_items [] = ⊤
AreEntriesFor no_items (e ∷ es) = ⊥
AreEntriesFor (item d ds) [] = ⊥
AreEntriesFor (item d ds) (e ∷ es) = IsEntryFor d e × AreEntriesFor ds es

-- the entries of the list at a property of these bytes
pub record AreListEntriesOf (bytes name : List ℕ) (entries : List Entry) : Type 0 where
  pub whole : Data
  pub list : Items
  pub value : IsValueOf bytes whole
  pub under : list_under name whole ≡ Some list
  pub checked : AreEntriesFor list entries

-- the bytes have no list at a property
pub record HasNoList (bytes name : List ℕ) : Type 0 where
  pub whole : Data
  pub value : IsValueOf bytes whole
  pub under : list_under name whole ≡ None

-- why there are no entries; memory may run out at any time
abbrev pub HasNoEntriesAs : List ℕ → List ℕ → JsonRefusal → Type 0
HasNoEntriesAs bytes name NotJson = HasNoValue bytes
HasNoEntriesAs bytes name (TooDeep path) = ⊥
HasNoEntriesAs bytes name (NotWhole path) = ⊥
HasNoEntriesAs bytes name (Null path) = ⊥
HasNoEntriesAs bytes name (OutOfRange path) = ⊥
HasNoEntriesAs bytes name NotList = HasNoList bytes name
HasNoEntriesAs bytes name NoMemory = ⊤
