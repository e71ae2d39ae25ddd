-- What a store keeps of an object, and the row that this makes.
use Rattle.std.specs.Prelude.{◌≡◌, ℕ, pos, Option, is_some, unwrap_or, MatchOption}
use Rattle.flow_values.specs.Answers.{FindsExactly}
use Rattle.serde_json.specs.Data.{Data}
use Rattle.serde_json.specs.Written.{compact_text}
use Rattle.stix_ids.specs.declared.id.Id.{Id}
use Rattle.stix_objects.specs.Properties.{HasId}
use Rattle.taxii_rows.specs.declared.stored_row.StoredRow.{StoredRow}
use Rattle.taxii_rows.specs.declared.described.Described.{Described}
use Rattle.taxii_rows.specs.declared.type_set.TypeSet.TheVariants.{Second}
use Rattle.taxii_rows.specs.Version.{HasVersion}

-- its identifier, its version where it has one, and its compact text
pub record IsDescribed (object : Data) (described : Described) : Type 0 where
  pub id : HasId object described.id
  pub version : FindsExactly (HasVersion Second object) described.version
  pub body : described.body ≡ compact_text object

-- what is kept of the object, or none where it has no identifier
abbrev pub Describes : Data → Option Described → Type 0
Describes d found = MatchOption found ((id : Id) → ¬ HasId d id) (IsDescribed d)

-- the row of an object in a collection, added then: an undated object has its date as its version
abbrev pub stored_row_of : Described → ℕ → ℕ → StoredRow
stored_row_of described date collection = record {
  date = date;
  collection = collection;
  id = described.id;
  version = unwrap_or described.version (pos date);
  dated = is_some described.version;
  body = described.body;
}
