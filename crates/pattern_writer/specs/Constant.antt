-- The canonical text of constants (STIX 2.1, section 9.2).
use Rattle.std.specs.Prelude.{◌≡◌, ℕ, ℤ, if◌then◌else◌, List, codes}
use Rattle.std.specs.Fmt.{signed_decimal}
use Rattle.hex.specs.Hex.{encode_lower}
use Rattle.base64.specs.Engines.{standard}
use Rattle.base64.specs.GeneralPurpose.{encode_of}
use Rattle.stix_times.specs.Writing.{IsCanonicalTextOf}
use Rattle.pattern_lexer.specs.Values.{quoted, IsStringText}
use Rattle.pattern_types.specs.declared.constant.Constant.{Constant}
use Rattle.pattern_types.specs.declared.constant.Constant.TheVariants.{Integer, String, Boolean, Hex, Binary, Timestamp}

-- t'..', with the fewest fraction digits
abbrev pub IsTimeText : ℤ → List ℕ → Type 0
IsTimeText instant text = (time : List ℕ) × IsCanonicalTextOf time instant × (text ≡ quoted (codes "t") time)

-- a number has no `+`, a string escapes only `'` and `\`, bytes are lower-case hexadecimal digits
-- or padded base64
abbrev pub IsConstantText : Constant → List ℕ → Type 0
IsConstantText (Integer whole) text = text ≡ signed_decimal whole
IsConstantText (String words) text = IsStringText text words
IsConstantText (Boolean truth) text = text ≡ (if truth then codes "true" else codes "false")
IsConstantText (Hex bytes) text = text ≡ quoted (codes "h") (encode_lower bytes)
IsConstantText (Binary bytes) text = text ≡ quoted (codes "b") (encode_of standard bytes)
IsConstantText (Timestamp instant) text = IsTimeText instant text
