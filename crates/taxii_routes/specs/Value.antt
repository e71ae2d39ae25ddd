-- What the values of the parameters mean: TAXII 2.1, sections 3.4 and 3.5. Of the bytes, 44 is `,`,
-- and 97 to 102 are `a` to `f`.
use Rattle.std.specs.Prelude.{◌≡◌, ◌≢◌, ◌⊎◌, ℕ, ◌<◌, ◌≤◌, ℤ, pos, ◌*ℤ◌, ◌==◌, Bool, List, [], length, All, codes}
use Rattle.std.specs.List.{AllZip, slice_split}
use Rattle.std.specs.Char.{IsAsciiDigit}
use Rattle.std.specs.Int.{IsInRange}
use Rattle.std.specs.Str.Parse.{IsNumeral, digits_value}
use Rattle.stix_times.specs.Reading as time
use Rattle.stix_ids.specs.declared.id.Id.{Id}
use Rattle.stix_ids.specs.declared.pick.Pick.{Pick}
use Rattle.stix_ids.specs.Identifier as identifier
use Rattle.taxii_routes.specs.declared.param.Param.{Param}
use Rattle.taxii_routes.specs.declared.param.Param.TheVariants.{AddedAfter, Limit, Next, MatchId, MatchType, MatchVersion, MatchSpec}

-- one to eighteen decimal digits, of a number that is not zero
pub record IsLimit (value : List ℕ) (limit : ℕ) : Type 0 where
  pub digits : IsNumeral 10 value
  pub few : length value ≤ 18
  pub number : limit ≡ digits_value 10 value
  pub some : 0 < limit

-- a hex digit in lower case
abbrev pub IsHexDigit : ℕ → Type 0
IsHexDigit byte = IsAsciiDigit byte ⊎ IsInRange 97 102 byte

-- sixteen hex digits in lower case
pub record IsNextCursor (value : List ℕ) (next : ℕ) : Type 0 where
  pub digits : All IsHexDigit value
  pub long : length value ≡ 16
  pub number : next ≡ digits_value 16 value

abbrev pub is_comma : ℕ → Bool
is_comma byte = byte == 44

-- the value_members of a list, between its commas
abbrev pub value_members : List ℕ → List (List ℕ)
value_members value = slice_split is_comma value

-- the value_members, of which none is empty
pub record AreValueTexts (value : List ℕ) (texts : List (List ℕ)) : Type 0 where
  pub some : All (λ text. text ≢ []) texts
  pub all : texts ≡ value_members value

-- the timestamp of a whole number of microseconds since 1970
abbrev pub IsTextOfMicros : List ℕ → ℤ → Type 0
IsTextOfMicros text micros = time.IsTextOfInstant text (pos 1000 *ℤ micros)

-- `last`, `first`, `all`, or a version's time
abbrev pub IsPickText : List ℕ → Pick → Type 0
IsPickText text Pick.Last = text ≡ codes "last"
IsPickText text Pick.First = text ≡ codes "first"
IsPickText text Pick.All = text ≡ codes "all"
IsPickText text (Pick.At micros) = IsTextOfMicros text micros

-- what a parameter's value is: an instant, a number or a list
abbrev pub Meaning : Param → Type 0
Meaning AddedAfter = ℤ
Meaning Limit = ℕ
Meaning Next = ℕ
Meaning MatchId = List Id
Meaning MatchType = List (List ℕ)
Meaning MatchVersion = List Pick
Meaning MatchSpec = List (List ℕ)

-- the text is a well-formed value of the parameter with this meaning
abbrev pub IsParameterValue : (param : Param) → List ℕ → Meaning param → Type 0
IsParameterValue AddedAfter value instant = time.IsTextOfInstant value instant
IsParameterValue Limit value limit = IsLimit value limit
IsParameterValue Next value next = IsNextCursor value next
IsParameterValue MatchId value ids = AllZip identifier.IsTextOfId (value_members value) ids
IsParameterValue MatchType value kinds = AreValueTexts value kinds
IsParameterValue MatchVersion value picks = AllZip IsPickText (value_members value) picks
IsParameterValue MatchSpec value specs = AreValueTexts value specs

-- the text is a well-formed value of the parameter
abbrev pub HasMeaning : Param → List ℕ → Type 0
HasMeaning param value = (meaning : Meaning param) × IsParameterValue param value meaning
