-- UUIDs of RFC 4122, section 3, in hyphenated form: 32 hex digits of a 128-bit number, the highest
-- first, with a hyphen after the 8th, the 12th, the 16th and the 20th. Digits of either case are
-- read, and lower-case digits are written. UUIDs of every version are accepted.
use Rattle.std.specs.Prelude.{◌≡◌, ℕ, ◌^◌, ◌<◌, List}
use Rattle.std.specs.Int.{to_be_bytes, w128}
use Rattle.std.specs.Str.{str_to_ascii_lowercase}
use Rattle.uuid.specs.Text.{hyphenated_text, lower}

-- the number's text, in lower-case digits
unfoldable pub uuid_text : ℕ → List ℕ
uuid_text number = hyphenated_text lower (to_be_bytes w128 number)

-- the text is the number's, in digits of either case
pub record IsUuidOf (text : List ℕ) (number : ℕ) : Type 0 where
  pub fits : number < 2 ^ 128
  pub spelling : str_to_ascii_lowercase text ≡ uuid_text number

-- the text is some number's
abbrev pub IsUuid : List ℕ → Type 0
IsUuid text = (number : ℕ) × IsUuidOf text number
