-- The text of a prefix length (RFC 4632, section 3.1).
use Rattle.std.specs.Prelude.{◌≡◌, ◌≢◌, ℕ, ◌<◌, ◌≤◌, List, length, slice_index, Option, Some, None, decimal}
use Rattle.std.specs.Borrow.{Bor}

-- the first byte isn't `+`, and is a zero only if it is the whole text
pub record BeginsAsDecimal (text : List ℕ) : Type 0 where
  pub some : 0 < length text
  pub no_sign : slice_index text 0 ≢ 43
  pub no_zero : slice_index text 0 ≡ 48 → length text ≡ 1

-- the text is the number in decimal, which is at most the limit
abbrev pub IsDecimalAtMost : ℕ → List ℕ → ℕ → Type 0
IsDecimalAtMost most text number = (text ≡ decimal number) × (number ≤ most)

-- all bits without a number, and else this number
abbrev pub IsPrefixLength : ℕ → Option (Bor (List ℕ)) → ℕ → Type 0
IsPrefixLength width None bits = bits ≡ width
IsPrefixLength width (Some text) bits = IsDecimalAtMost width text.now bits
