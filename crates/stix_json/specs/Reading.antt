-- The JSON value of some bytes, or their refusal, and likewise for each entry of a list.
use Rattle.std.specs.Prelude.{◌≡◌, ⊤, ℕ, List, Some, None, IsUtf8}
use Rattle.serde_json.specs.Data.{Data}
use Rattle.serde_json.specs.Read.{read}
use Rattle.stix_json.specs.declared.value.Json.{Json}
use Rattle.stix_json.specs.declared.entry.Entry.{Entry}
use Rattle.stix_json.specs.declared.entry.Entry.TheVariants.{Good, Bad}
use Rattle.stix_json.specs.declared.refusal.JsonRefusal.{JsonRefusal}
use Rattle.stix_json.specs.declared.refusal.JsonRefusal.TheVariants.{NotJson, TooDeep, NotWhole, Null, OutOfRange, NotList, NoMemory}
use Rattle.stix_json.specs.DataOf.{data_of}
use Rattle.stix_json.specs.Ordered.{IsOrdered}
use Rattle.stix_json.specs.Refusal.{data_refusal}

-- the bytes are UTF-8, and a JSON text of this value
pub record IsValueOf (bytes : List ℕ) (d : Data) : Type 0 where
  pub text : IsUtf8 bytes
  pub value : read bytes ≡ Some d

-- the bytes are no JSON text
abbrev pub HasNoValue : List ℕ → Type 0
HasNoValue bytes = (d : Data) → ¬ (IsValueOf bytes d)

-- the Json is this value, it has no error, and its names are ascending
pub record IsJsonAs (d : Data) (json : Json) : Type 0 where
  pub same : data_of json ≡ d
  pub good : data_refusal d ≡ None
  pub ordered : IsOrdered d

-- the refusal of the value: only for its depth or for a value in it
abbrev pub IsRefusalOf : Data → JsonRefusal → Type 0
IsRefusalOf d NotJson = ⊥
IsRefusalOf d (TooDeep path) = data_refusal d ≡ Some (TooDeep path)
IsRefusalOf d (NotWhole path) = data_refusal d ≡ Some (NotWhole path)
IsRefusalOf d (Null path) = data_refusal d ≡ Some (Null path)
IsRefusalOf d (OutOfRange path) = data_refusal d ≡ Some (OutOfRange path)
IsRefusalOf d NotList = ⊥
IsRefusalOf d NoMemory = ⊥

-- the outcome of checking a value on its own
abbrev pub IsEntryFor : Data → Entry → Type 0
IsEntryFor d (Good json) = IsJsonAs d json
IsEntryFor d (Bad refusal) = IsRefusalOf d refusal

-- the Json of some bytes
pub record IsJsonOf (bytes : List ℕ) (json : Json) : Type 0 where
  pub value : IsValueOf bytes (data_of json)
  pub good : data_refusal (data_of json) ≡ None
  pub ordered : IsOrdered (data_of json)

-- the refusal of some bytes; memory may run out at any time
abbrev pub IsJsonRefusedAs : List ℕ → JsonRefusal → Type 0
IsJsonRefusedAs bytes NotJson = HasNoValue bytes
IsJsonRefusedAs bytes (TooDeep path) = (d : Data) × IsValueOf bytes d × IsRefusalOf d (TooDeep path)
IsJsonRefusedAs bytes (NotWhole path) = (d : Data) × IsValueOf bytes d × IsRefusalOf d (NotWhole path)
IsJsonRefusedAs bytes (Null path) = (d : Data) × IsValueOf bytes d × IsRefusalOf d (Null path)
IsJsonRefusedAs bytes (OutOfRange path) = (d : Data) × IsValueOf bytes d × IsRefusalOf d (OutOfRange path)
IsJsonRefusedAs bytes NotList = ⊥
IsJsonRefusedAs bytes NoMemory = ⊤
