-- The rows of the object rules, as data. Rows defines their meaning.
use Rattle.std.specs.Prelude.{ℕ, List}
use Rattle.stix_objects.specs.declared.form.Precision.{Precision}
use Rattle.stix_objects.specs.declared.groups.Group.{Group}
use Rattle.stix_objects.specs.Form.{Form}

-- a condition on an object: a property is true, or false, or present with this type, or absent
pub data Condition : Type 0 where
  is_true : List ℕ → Condition
  is_false : List ℕ → Condition
  meets : List ℕ → Form → Condition
  absent : List ℕ → Condition

-- a required property, an optional one, or one required under a condition; the object's own
-- identifier; two timestamps in order, the second not earlier, or later; at least one of some
-- properties, reported at a path; a property that must be absent under conditions; the statement,
-- the colour and the identifier of a marking-definition
pub data Row : Type 0 where
  required : List ℕ → Form → Row
  optional : List ℕ → Form → Row
  required_where : List ℕ → Form → Condition → Row
  own_id : Row
  order : Precision → List ℕ → List ℕ → Row
  strict_order : Precision → List ℕ → List ℕ → Row
  needs_one_of : List (List ℕ) → List (List ℕ) → Row
  excludes : List ℕ → List Condition → Row
  statement : Row
  colour : Row
  colour_id : Row

-- a row that applies to the objects of some groups, and one that does so unless the type's own rows
-- name a property
pub data CommonRow : Type 0 where
  for : List Group → Row → CommonRow
  unless_own : List Group → List ℕ → Row → CommonRow

-- an object type: its name, its group and its own rows
pub record ObjectType : Type 0 where
  pub name : List ℕ
  pub group : Group
  pub rows : List Row
