-- The values of properties: an instant (STIX 2.1, sections 2.16 and 3.2), the object's identifier
-- (2.9).
use Rattle.std.specs.Prelude.{◌≡◌, ℕ, ℤ, List, Some, codes}
use Rattle.serde_json.specs.Data.{Data}
use Rattle.stix_ids.specs.declared.id.Id.{Id}
use Rattle.stix_ids.specs.Identifier.{IsTextOfId}
use Rattle.stix_json.specs.Properties.{property_text}
use Rattle.stix_objects.specs.declared.form.Precision.{Precision}
use Rattle.stix_objects.specs.Singles.{IsTimestampOf}

-- the property is a timestamp of this instant
pub record IsTimestampAt (precision : Precision) (name : List ℕ) (object : Data) (instant : ℤ) : Type 0 where
  pub text : List ℕ
  pub there : property_text name object ≡ Some text
  pub names : IsTimestampOf precision text instant

-- the object has the identifier
pub record HasId (object : Data) (id : Id) : Type 0 where
  pub text : List ℕ
  pub there : property_text (codes "id") object ≡ Some text
  pub reads : IsTextOfId text id
