-- Facts about an object without violations.
use Rattle.std.specs.Prelude.{◌≡◌, ⊤, ℕ, ℤ, ◌≤ℤ◌, List, [], ◌∷◌, Some, None, IsSome, codes}
use Rattle.serde_json.specs.Data.{Data}
use Rattle.serde_json.specs.Find.{as_object}
use Rattle.stix_ids.specs.Kind.{IsKind}
use Rattle.stix_ids.specs.Identifier.{IsTextOfId}
use Rattle.stix_objects.specs.declared.form.Precision.TheVariants.{Any}
use Rattle.stix_objects.specs.Row.{Row}
use Rattle.stix_objects.specs.Properties.{IsTimestampAt}
use Rattle.stix_json.specs.Properties.{property_text}
use Rattle.stix_objects.specs.Rows.{Checks}

-- the value meets each row
abbrev pub MeetsAll : List Row → Data → Type 0
MeetsAll [] d = ⊤
MeetsAll (row ∷ rows) d = Checks row d None × MeetsAll rows d

-- the value is an object with a type, and with an identifier of this type
pub record IsNamed (d : Data) : Type 0 where
  pub object : IsSome (as_object d)
  pub type : List ℕ
  pub typed : property_text (codes "type") d ≡ Some type
  pub kind : IsKind type
  pub text : List ℕ
  pub named : property_text (codes "id") d ≡ Some text
  pub number : ℕ
  pub id : IsTextOfId text (record { kind = type; number = number })

-- the two properties are timestamps, and the second isn't earlier than the first
pub record IsTimed (first second : List ℕ) (d : Data) : Type 0 where
  pub from : ℤ
  pub to : ℤ
  pub begins : IsTimestampAt Any first d from
  pub ends : IsTimestampAt Any second d to
  pub ordered : from ≤ℤ to
