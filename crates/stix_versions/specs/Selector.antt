-- Selectors of granular markings (STIX 2.1, section 7.2.3.1): property names and list indices,
-- joined by dots, beginning at a property of the object.
use Rattle.std.specs.Prelude.{◌≡◌, ◌≢◌, ◌⊎◌, ℕ, List, [], ◌∷◌, ◌++◌, map, All, Option, Some, option_and_then, slice_index, codes}
use Rattle.std.specs.Char.{IsAsciiLowercase, IsAsciiDigit}
use Rattle.std.specs.Str.Parse.{IsNumeral, digits_value}
use Rattle.serde_json.specs.Data.{Data}
use Rattle.serde_json.specs.Find.{get, at as item_at}
use Rattle.stix_json.specs.Walk.{path_text}

-- a to z, 0 to 9, `_` or `-`
abbrev pub IsNameCharacter : ℕ → Type 0
IsNameCharacter c = IsAsciiLowercase c ⊎ IsAsciiDigit c ⊎ (c ≡ 95) ⊎ (c ≡ 45)

-- one or more of these
abbrev pub IsName : List ℕ → Type 0
IsName name = (name ≢ []) × All IsNameCharacter name

-- decimal digits, one or more, without leading zeros
abbrev pub IsIndex : List ℕ → Type 0
IsIndex digits = IsNumeral 10 digits × ((digits ≡ codes "0") ⊎ (slice_index digits 0 ≢ 48))

-- one part: a property's name, or the digits of a list index, counted from 0
pub data SelectorPart : Type 0 where
  named : List ℕ → SelectorPart
  indexed : List ℕ → SelectorPart

abbrev pub IsPart : SelectorPart → Type 0
IsPart (named name) = IsName name
IsPart (indexed digits) = IsIndex digits

-- digits in brackets: [n]
abbrev pub in_brackets : List ℕ → List ℕ
in_brackets digits = 91 ∷ (digits ++ 93 ∷ [])

-- the text of a part: the name, or the digits in brackets
abbrev pub selector_part_text : SelectorPart → List ℕ
selector_part_text (named name) = name
selector_part_text (indexed digits) = in_brackets digits

abbrev pub AreSelectorParts : List SelectorPart → Type 0
AreSelectorParts [] = Unit {0}
AreSelectorParts (part ∷ parts) = IsPart part × AreSelectorParts parts

-- it begins with a property's name
abbrev pub BeginsNamed : List SelectorPart → Type 0
BeginsNamed [] = ⊥
BeginsNamed (named name ∷ parts) = Unit {0}
BeginsNamed (indexed digits ∷ parts) = ⊥

-- the text is a selector of these parts
pub record IsSelector (text : List ℕ) (parts : List SelectorPart) : Type 0 where
  pub are_parts : AreSelectorParts parts
  pub begins : BeginsNamed parts
  pub spelled : text ≡ path_text (map selector_part_text parts)

-- the value that a part selects in a value
abbrev pub selected_value : SelectorPart → Data → Option Data
selected_value (named name) d = get name d
selected_value (indexed digits) d = item_at (digits_value 10 digits) d

-- the value that parts select in a value, one after another
abbrev pub value_at : List SelectorPart → Data → Option Data
value_at [] d = Some d
value_at (part ∷ parts) d = option_and_then (value_at parts) (selected_value part d)
