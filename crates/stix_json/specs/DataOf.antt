-- The JSON value of a `Json`, as `serde_json`'s data model has it (RFC 8259, section 3).
use Rattle.std.specs.Prelude.{ℕ, List, [], ◌∷◌}
use Rattle.serde_json.specs.Data.{Data, boolean, number, string, array, object, Members, no_members, member}
use Rattle.serde_json.specs.Find.{of_integer}
use Rattle.serde_json.specs.View.{items_of}
use Rattle.stix_json.specs.declared.value.Json.{Json, fold-Json}
use Rattle.stix_json.specs.declared.value.Field.{Field}
use Rattle.stix_json.specs.declared.value.Json.TheOpen.{Json-F, Field-F}

-- a name and its value
pub record Member : Type 0 where
  pub name : List ℕ
  pub value : Data

-- the members, in order
abbrev pub members_of : List Member → Members
members_of [] = no_members
members_of (m ∷ ms) = member m.name m.value (members_of ms)

-- one level of the value, whose items and fields are converted already
abbrev pub json_level : Json-F Data Member → Data
json_level (Json-F.Bool truth) = boolean truth
json_level (Json-F.Integer whole) = number (of_integer whole)
json_level (Json-F.String words) = string words
json_level (Json-F.Array items) = array (items_of items)
json_level (Json-F.Object fields) = object (members_of fields)

abbrev pub field_level : Field-F Data Member → Member
field_level field = record { name = field.name; value = field.value }

-- the value of a `Json`
abbrev pub data_of : Json → Data
data_of = fold-Json Data Member json_level field_level

-- the member of a field
abbrev pub field_data : Field → Member
field_data field = record { name = field.name; value = data_of field.value }
