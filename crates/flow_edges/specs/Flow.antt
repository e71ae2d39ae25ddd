-- Bytes read from a source and written to a sink. Only some objects make them observable: `None`
-- promises nothing.
use Rattle.std.specs.Prelude.{◌≡◌, ℕ, ◌≤◌, ◌<◌, List, [], ◌++◌, length, take, drop, Option, None, option_map, IfSome, Result, MatchResult}
use Rattle.std.specs.Borrow.{Bor}
use Rattle.std.specs.List.{flat_map}

-- the state of an object as a source, which a write leaves unchanged: the bytes left, the bytes
-- left when the last read began, and the count of failed reads
pub record SourceSide : Type 0 where
  pub left : Option (List ℕ)
  pub began : Option (List ℕ)
  pub faults : ℕ

-- its state as a sink, which a read leaves unchanged: the bytes written, and the count of failed
-- writes
pub record SinkSide : Type 0 where
  pub written : Option (List ℕ)
  pub faults : ℕ

-- an object that is only a sink
abbrev pub no_source : SourceSide
no_source = record { left = None; began = None; faults = 0 }

abbrev pub no_sink : SinkSide
no_sink = record { written = None; faults = 0 }

-- the bytes left after n of them were read
abbrev pub left_after : ℕ → Option (List ℕ) → Option (List ℕ)
left_after n left = option_map (λ bytes. drop n bytes) left

-- the bytes written after these were appended
abbrev pub written_with : List ℕ → Option (List ℕ) → Option (List ℕ)
written_with more written = option_map (λ bytes. bytes ++ more) written

-- these bytes are a prefix of the bytes left
abbrev pub IsNextOf : List ℕ → Option (List ℕ) → Type 0
IsNextOf given left = IfSome left (λ bytes. take (length given) bytes ≡ given)

-- nothing is left, as far as that is observable
abbrev pub IsAtEnd : Option (List ℕ) → Type 0
IsAtEnd left = IfSome left (λ bytes. bytes ≡ [])

-- at most n bytes were read, as far as that is observable
abbrev pub TakesAtMost : ℕ → Option (List ℕ) → Option (List ℕ) → Type 0
TakesAtMost most left now = (n : ℕ) × (n ≤ most) × (now ≡ left_after n left)

-- a prefix of the bytes was appended to the bytes written
abbrev pub WritesPrefix : List ℕ → Option (List ℕ) → Option (List ℕ) → Type 0
WritesPrefix bytes before now = (n : ℕ) × (n ≤ length bytes) × (now ≡ written_with (take n bytes) before)

-- a proper prefix of the bytes was appended to the bytes written
abbrev pub WritesPart : List ℕ → Option (List ℕ) → Option (List ℕ) → Type 0
WritesPart bytes before now = (n : ℕ) × (n < length bytes) × (now ≡ written_with (take n bytes) before)

-- the result of writing all bytes: Ok if all were written, Err after a prefix
abbrev pub WritesWhole : {T E : Type 0} → List ℕ → Option (List ℕ) → Option (List ℕ) → Result T E → Type 0
WritesWhole bytes before now answer = MatchResult answer (λ _. now ≡ written_with bytes before) (λ _. WritesPrefix bytes before now)

-- the concatenation of the slices
abbrev pub joined_slices : List (Bor (List ℕ)) → List ℕ
joined_slices pieces = flat_map (λ piece. piece.now) pieces
