-- For private clauses: the values of `selectors` one by one, and the violations of one object.
use Rattle.std.specs.Prelude.{◌≡◌, List, ℕ, None, codes, option_and_then, Some}
use Rattle.serde_json.specs.Data.{Data, string}
use Rattle.serde_json.specs.Find.{get, as_array}
use Rattle.serde_json.specs.View.{items_of}
use Rattle.stix_versions.specs.Selector.{SelectorPart, IsSelector, value_at}
use Rattle.stix_versions.specs.declared.marking_break.MarkingBreak.{MarkingBreak}
use Rattle.stix_versions.specs.Markings.{HasOne, HasProperty, RefersToMarking, AreMarkings, AreBreaksOfMarkings}

-- the value is the text of a selector
pub record IsSelectorText (value : Data) : Type 0 where
  pub text : List ℕ
  pub parts : List SelectorPart
  pub is_text : value ≡ string text
  pub selector : IsSelector text parts

-- the value is the text of a selector that selects nothing in the object
pub record Misses (object value : Data) : Type 0 where
  pub text : List ℕ
  pub parts : List SelectorPart
  pub is_text : value ≡ string text
  pub selector : IsSelector text parts
  pub missing : value_at parts object ≡ None

-- the property is a list of these values
abbrev pub IsListAt : List ℕ → Data → List Data → Type 0
IsListAt name d values = option_and_then as_array (get name d) ≡ Some (items_of values)

-- the marking names one marking or one language, and a marking by its identifier
abbrev pub IsWellNamed : Data → Type 0
IsWellNamed marking = HasOne marking × (HasProperty (codes "marking_ref") marking → RefersToMarking marking)

-- the violations of the markings of the object at the position
abbrev pub AreOwnBreaks : ℕ → Data → List MarkingBreak → Type 0
AreOwnBreaks place d own = (markings : List Data) × AreMarkings d markings × AreBreaksOfMarkings place d 0 markings own
