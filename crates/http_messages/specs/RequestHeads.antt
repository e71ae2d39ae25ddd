-- Where the head of a request begins and ends among the bytes of a connection (RFC 9112, sections
-- 2.1 and 2.2). Of the bytes, 10 is LF and 13 is CR.
use Rattle.std.specs.Prelude.{◌≡◌, ℕ, ◌+◌, ◌<◌, ◌≤◌, Bool, true, false, ◌==◌, ◌&&◌, ◌||◌, if◌then◌else◌, List, length, slice_index}

-- CR or LF
abbrev pub is_line_byte : ℕ → Bool
is_line_byte byte = byte == 13 || byte == 10

-- an empty line follows the LF at this offset: LF, or CR LF
abbrev pub is_last_line_end : List ℕ → ℕ → Bool
is_last_line_end bytes at =
    slice_index bytes at == 10
    && (slice_index bytes (at + 1) == 10 || (slice_index bytes (at + 1) == 13 && slice_index bytes (at + 2) == 10))

-- the offset after the empty line that follows the LF at this offset
abbrev pub after_empty_line : List ℕ → ℕ → ℕ
after_empty_line bytes at = if slice_index bytes (at + 1) == 10 then at + 2 else at + 3

-- no LF at an offset from `low` up to `high` is followed by an empty line
abbrev pub HasNoEnd : List ℕ → ℕ → ℕ → Type 0
HasNoEnd bytes low high = (offset : ℕ) → low ≤ offset → offset < high → is_last_line_end bytes offset ≡ false

-- the first LF from `from` on that an empty line follows
pub record IsFirstEnd (bytes : List ℕ) (from offset : ℕ) : Type 0 where
  pub order : from ≤ offset
  pub here : is_last_line_end bytes offset ≡ true
  pub first : HasNoEnd bytes from offset

-- the bytes before `start` are CR and LF, which are dropped; the head begins there with another
-- byte, and `end` is after its first empty line
pub record IsHeadAt (bytes : List ℕ) (start end : ℕ) : Type 0 where
  pub dropped : (offset : ℕ) → offset < start → is_line_byte (slice_index bytes offset) ≡ true
  pub begins : is_line_byte (slice_index bytes start) ≡ false
  pub last : ℕ
  pub after : start ≤ last
  pub empty : is_last_line_end bytes last ≡ true
  pub first : (offset : ℕ) → start ≤ offset → offset < last → is_last_line_end bytes offset ≡ false
  pub end_is : end ≡ after_empty_line bytes last
  pub within : end ≤ length bytes

-- no head ends in the first n bytes
abbrev pub HasNoHeadIn : ℕ → List ℕ → Type 0
HasNoHeadIn n bytes = (start end : ℕ) → IsHeadAt bytes start end → n < end
