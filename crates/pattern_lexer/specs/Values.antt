-- The value of a constant's token (STIX 2.1, section 9.2). Byte 39 is `'`, 48 is `0` and 92 is `\`.
use Rattle.std.specs.Prelude.{◌≡◌, ◌≢◌, ◌≤◌, ◌⊎◌, ℕ, ◌||◌, ◌==◌, if◌then◌else◌, ℤ, pos, neg_ℤ, ◌≤ℤ◌, List, [], ◌∷◌, ◌++◌, length, slice_get, Some, flat_map, codes, All, Ok}
use Rattle.std.specs.Str.Parse.{IsNumeral, without_leading_sign, signed_digits_value}
use Rattle.hex.specs.Hex.{decode_of}
use Rattle.base64.specs.{Engines.standard, GeneralPurpose.encode_of, GeneralPurpose.IsBytes}
use Rattle.stix_times.specs.Reading.{IsTextOfInstant}
use Rattle.pattern_lexer.specs.declared.token.TokenKind.{TokenKind}
use Rattle.pattern_lexer.specs.declared.token.TokenKind.TheVariants.{Number, String, Hex, Binary, Timestamp}

-- Number = [ "+" | "-" ] digit { digit }
abbrev pub IsNumberText : List ℕ → Type 0
IsNumberText text = IsNumeral 10 (without_leading_sign text)

-- no digit follows a leading zero
abbrev pub HasNoLeadingZero : List ℕ → Type 0
HasNoLeadingZero digits = slice_get digits 0 ≡ Some 48 → length digits ≤ 1

-- the number has 64 bits with its sign
abbrev pub FitsIn64Bits : ℤ → Type 0
FitsIn64Bits whole = (neg_ℤ (pos 9_223_372_036_854_775_808) ≤ℤ whole) × (whole ≤ℤ pos 9_223_372_036_854_775_807)

-- the Number is this one, in decimal
pub record IsIntegerText (text : List ℕ) (whole : ℤ) : Type 0 where
  pub number : IsNumberText text
  pub plain : HasNoLeadingZero (without_leading_sign text)
  pub value : whole ≡ signed_digits_value 10 text
  pub fits : FitsIn64Bits whole

-- the text between `'` and `'`, after a prefix letter or none
abbrev pub quoted : List ℕ → List ℕ → List ℕ
quoted letter inside = letter ++ codes "'" ++ inside ++ codes "'"

-- `'` or `\`
abbrev pub IsSpecial : ℕ → Type 0
IsSpecial c = (c ≡ 39) ⊎ (c ≡ 92)

-- these are escaped by a `\`
abbrev pub escaped : ℕ → List ℕ
escaped c = if c == 39 || c == 92 then 92 ∷ c ∷ [] else c ∷ []

-- String = "'" { any character but "'" and "\" | "\'" | "\\" } "'"
abbrev pub string_text : List ℕ → List ℕ
string_text words = quoted [] (flat_map escaped words)

-- the String has this value
abbrev pub IsStringText : List ℕ → List ℕ → Type 0
IsStringText text words = text ≡ string_text words

-- Hex, Binary, Timestamp = ( "h" | "b" | "t" ) "'" { any character but "'" } "'"
pub record IsPrefixedText (letter text inside : List ℕ) : Type 0 where
  pub spelled : text ≡ quoted letter inside
  pub unquoted : All (λ c. c ≢ 39) inside

-- the Hex has these bytes: two hexadecimal digits of either case for each
abbrev pub IsHexText : List ℕ → List ℕ → Type 0
IsHexText text bytes = (digits : List ℕ) × (text ≡ quoted (codes "h") digits) × (decode_of digits ≡ Ok bytes)

-- the Binary has these bytes: their padded base64 (RFC 4648, section 4)
abbrev pub IsBinaryText : List ℕ → List ℕ → Type 0
IsBinaryText text bytes = IsBytes bytes × (text ≡ quoted (codes "b") (encode_of standard bytes))

-- the Timestamp has this instant
abbrev pub IsTimestampText : List ℕ → ℤ → Type 0
IsTimestampText text instant = (time : List ℕ) × (text ≡ quoted (codes "t") time) × IsTextOfInstant time instant

-- the token of this kind has a value
abbrev pub HasValue : TokenKind → List ℕ → Type 0
HasValue Number text = (whole : ℤ) × IsIntegerText text whole
HasValue String text = (words : List ℕ) × IsStringText text words
HasValue Hex text = (bytes : List ℕ) × IsHexText text bytes
HasValue Binary text = (bytes : List ℕ) × IsBinaryText text bytes
HasValue Timestamp text = (instant : ℤ) × IsTimestampText text instant
HasValue _ text = Unit {0}
