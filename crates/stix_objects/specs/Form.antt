-- The types of properties, as data. Singles and Forms define their meaning.
use Rattle.std.specs.Prelude.{ℕ, ℤ, pos, List, [], ◌∷◌, codes}
use Rattle.stix_objects.specs.declared.form.Precision.{Precision}
use Rattle.stix_objects.specs.declared.form.Precision.TheVariants.{Any, Millis}

-- the type of one value: a text, a text that is a kind, the text `2.1`, one of some texts, a
-- timestamp, an identifier, an identifier of one of some kinds, true or false, an integer in a
-- range, an object, an object of texts
pub data Single : Type 0 where
  any_text : Single
  kind : Single
  version : Single
  one_of : List (List ℕ) → Single
  timestamp : Precision → Single
  any_reference : Single
  reference : List (List ℕ) → Single
  any_boolean : Single
  integer_in : ℤ → ℤ → Single
  object : Single
  texts_by_name : Single

-- a requirement on the objects of a list: a required property, an optional one, or at least one of
-- some properties
pub data Part : Type 0 where
  must : List ℕ → Single → Part
  may : List ℕ → Single → Part
  some_of : List (List ℕ) → Part

-- the type of a property: one value, a list of values, or a list of objects with these parts
pub data Form : Type 0 where
  one : Single → Form
  list : Single → Form
  records : List Part → Form

-- a text
abbrev pub text : Form
text = one any_text

-- true or false
abbrev pub boolean : Form
boolean = one any_boolean

-- an integer in a range
abbrev pub integer : ℕ → ℕ → Form
integer least most = one (integer_in (pos least) (pos most))

-- a timestamp
abbrev pub time : Form
time = one (timestamp Any)

-- a timestamp with three to six digits of a second
abbrev pub millis : Form
millis = one (timestamp Millis)

-- an identifier of one of these kinds
abbrev pub ref : List (List ℕ) → Form
ref kinds = one (reference kinds)

-- an identifier
abbrev pub ref_any : Form
ref_any = one any_reference

-- a list of such identifiers
abbrev pub refs : List (List ℕ) → Form
refs kinds = list (reference kinds)

-- a list of identifiers
abbrev pub refs_any : Form
refs_any = list any_reference

-- a list of texts
abbrev pub texts : Form
texts = list any_text

-- one of these texts
abbrev pub word : List (List ℕ) → Form
word known = one (one_of known)

-- an object
abbrev pub fields : Form
fields = one object

-- an object with one or more members, all texts
abbrev pub hashes : Form
hashes = one texts_by_name

-- a list of objects
abbrev pub listed : Form
listed = list object

-- external references, STIX 2.1, section 2.5
abbrev pub external : Form
external = records (must (codes "source_name") any_text ∷ may (codes "description") any_text
    ∷ may (codes "url") any_text ∷ may (codes "external_id") any_text ∷ may (codes "hashes") texts_by_name
    ∷ some_of (codes "description" ∷ codes "url" ∷ codes "external_id" ∷ []) ∷ [])

-- kill chain phases, STIX 2.1, section 2.11
abbrev pub phases : Form
phases = records (must (codes "kill_chain_name") any_text ∷ must (codes "phase_name") any_text ∷ [])
