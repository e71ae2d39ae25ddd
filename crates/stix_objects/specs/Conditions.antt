-- Conditions on an object that rows refer to.
use Rattle.std.specs.Prelude.{◌≡◌, ⊤, ℕ, ℤ, ◌<ℤ◌, ◌≤ℤ◌, List, [], ◌∷◌, true, false, Option, Some, None, MatchOption, IsSome, option_and_then, find, bytes_eq, option_map, codes}
use Rattle.serde_json.specs.Data.{Data, boolean}
use Rattle.serde_json.specs.Find.{get, as_object}
use Rattle.stix_ids.specs.declared.id.Id.{Id}
use Rattle.stix_json.specs.Properties.{property_text}
use Rattle.stix_objects.specs.declared.form.Precision.{Precision}
use Rattle.stix_objects.specs.Form.{Form}
use Rattle.stix_objects.specs.Row.{Condition, is_true, is_false, meets, absent}
use Rattle.stix_objects.specs.Singles.{ChecksOwnId}
use Rattle.stix_objects.specs.Forms.{MeetsForm}
use Rattle.stix_objects.specs.Properties.{IsTimestampAt, HasId}

-- the property is present and has the form
abbrev pub MeetsPropertyForm : List ℕ → Form → Data → Type 0
MeetsPropertyForm name form d = MatchOption (get name d) ⊥ (MeetsForm form)

-- the meaning of a condition
abbrev pub Holds : Condition → Data → Type 0
Holds (is_true name) d = get name d ≡ Some (boolean true)
Holds (is_false name) d = get name d ≡ Some (boolean false)
Holds (meets name form) d = MeetsPropertyForm name form d
Holds (absent name) d = get name d ≡ None

-- all the conditions hold
abbrev pub HoldAll : List Condition → Data → Type 0
HoldAll [] d = ⊤
HoldAll (condition ∷ conditions) d = Holds condition d × HoldAll conditions d

-- the second property is earlier than the first
pub record SecondIsEarlier (precision : Precision) (first second : List ℕ) (d : Data) : Type 0 where
  pub from : ℤ
  pub to : ℤ
  pub begins : IsTimestampAt precision first d from
  pub ends : IsTimestampAt precision second d to
  pub earlier : to <ℤ from

-- the second property isn't later than the first
pub record SecondIsNotLater (precision : Precision) (first second : List ℕ) (d : Data) : Type 0 where
  pub from : ℤ
  pub to : ℤ
  pub begins : IsTimestampAt precision first d from
  pub ends : IsTimestampAt precision second d to
  pub not_later : to ≤ℤ from

-- a TLP colour, and its UUID (STIX 2.1, section 7.2.1.4)
pub record Colour : Type 0 where
  pub name : List ℕ
  pub number : ℕ

-- the four colours
abbrev pub colours : List Colour
colours = record { name = codes "white"; number = 0x613f2e26407d48c79ecab8e91df99dc9 }
    ∷ record { name = codes "green"; number = 0x34098fce860f48ae8e50ebd3cc5e41da }
    ∷ record { name = codes "amber"; number = 0xf88d31f6486f44dab31701333bde0b82 }
    ∷ record { name = codes "red"; number = 0x5e57c739391a4eb3b6be7d15ca92d5ed } ∷ []

-- the UUID of a colour
abbrev pub number_of_colour : List ℕ → Option ℕ
number_of_colour name = option_map (λ colour. colour.number) (find (λ colour. bytes_eq colour.name name) colours)

-- a text of the definition
abbrev pub defined_text : List ℕ → Data → Option (List ℕ)
defined_text name d = option_and_then (property_text name) (get (codes "definition") d)

-- the UUID of the colour that is defined
abbrev pub defined_colour : Data → Option ℕ
defined_colour d = option_and_then number_of_colour (defined_text (codes "tlp") d)

-- the object's definition, if any, is an object
abbrev pub DefinesObjectOrNone : Data → Type 0
DefinesObjectOrNone d = MatchOption (get (codes "definition") d) ⊤ (λ v. IsSome (as_object v))

-- the object is a marking of this type, and its definition, if any, is an object
pub record IsMarking (type : List ℕ) (d : Data) : Type 0 where
  pub type_is : property_text (codes "definition_type") d ≡ Some type
  pub definition_is : DefinesObjectOrNone d

-- the object has an identifier with this UUID
abbrev pub HasNumber : Data → ℕ → Type 0
HasNumber d number = (id : Id) × HasId d id × (id.number ≡ number)

-- the object's identifier, if any, is of the object's type
abbrev pub HasOwnIdOrNone : Data → Type 0
HasOwnIdOrNone d =
    MatchOption (get (codes "id") d) ⊤ (λ v. ChecksOwnId (property_text (codes "type") d) v None)

-- the object defines a colour, and its identifier isn't the colour's
pub record HasOtherColour (d : Data) : Type 0 where
  pub marking : IsMarking (codes "tlp") d
  pub number : ℕ
  pub colour : defined_colour d ≡ Some number
  pub own : HasOwnIdOrNone d
  pub other : ¬ HasNumber d number
