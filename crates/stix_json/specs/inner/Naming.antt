-- For private clauses: the field found by a name.
use Rattle.std.specs.Prelude.{◌≡◌, ℕ, List, map, Some, slice_get}
use Rattle.serde_json.specs.Find.{get_member}
use Rattle.stix_json.specs.declared.value.Field.{Field}
use Rattle.stix_json.specs.DataOf.{data_of, field_data, members_of}

-- the field at the index is the one found by the name
pub record IsFieldAt (name : List ℕ) (fields : List Field) (at : ℕ) : Type 0 where
  pub field : Field
  pub there : slice_get fields at ≡ Some field
  pub found : get_member name (members_of (map field_data fields)) ≡ Some (data_of field.value)
