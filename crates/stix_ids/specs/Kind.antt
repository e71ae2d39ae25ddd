-- Kinds: the names of object types, STIX 2.1, section 3.1. A kind has 3 to 250 characters of `a` to
-- `z`, `0` to `9` and the hyphen, and no two hyphens in a row. A hyphen may be first or last. Byte
-- 45 is `-`.
use Rattle.std.specs.Prelude.{◌≡◌, ◌≢◌, ◌⊎◌, ℕ, ◌+◌, ◌<◌, ◌≤◌, List, ◌++◌, length, take, slice_index, All}
use Rattle.std.specs.Char.{IsAsciiLowercase, IsAsciiDigit}
use Rattle.std.specs.Int.{IsInRange}

-- a lower-case letter, a digit or a hyphen
abbrev pub IsKindByte : ℕ → Type 0
IsKindByte byte = IsAsciiLowercase byte ⊎ (IsAsciiDigit byte ⊎ (byte ≡ 45))

-- no two hyphens in a row
abbrev pub HasSingleHyphens : List ℕ → Type 0
HasSingleHyphens text = (at : ℕ) → at + 1 < length text
    → slice_index text at ≡ 45 → slice_index text (at + 1) ≢ 45

-- the text is a kind
pub record IsKind (text : List ℕ) : Type 0 where
  pub long : IsInRange 3 250 (length text)
  pub bytes : All IsKindByte text
  pub hyphens : HasSingleHyphens text

-- some kind has this prefix
abbrev pub BeginsKind : List ℕ → Type 0
BeginsKind prefix = (rest : List ℕ) × IsKind (prefix ++ rest)

-- the first `at` bytes begin a kind, and no longer prefix does
pub record IsLongestKindPrefix (text : List ℕ) (at : ℕ) : Type 0 where
  pub within : at ≤ length text
  pub begins : BeginsKind (take at text)
  pub longest : (n : ℕ) → n ≤ length text → BeginsKind (take n text) → n ≤ at
