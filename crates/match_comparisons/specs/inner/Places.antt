-- For private clauses: the places of a text where a segment of a LIKE pattern may match, 64 at a time.
use Rattle.std.specs.Prelude.{◌≡◌, ◌≢◌, ◌<◌, ◌+◌, ◌↔◌, ℕ, zero, suc, List, [], ◌∷◌, drop, get_or}
use Rattle.std.specs.Int.{bit_at}
use Rattle.match_comparisons.specs.Like.{any_run, any_one}
use Rattle.match_comparisons.specs.inner.Segments.{LeavesAfterPrefix}

-- the mark of a character is its code point and 1; past the text's end it is 0
abbrev pub mark_at : List ℕ → ℕ → ℕ
mark_at [] place = 0
mark_at (character ∷ rest) zero = character + 1
mark_at (character ∷ rest) (suc place) = mark_at rest place

-- a character of a segment fits the character with this mark
pub record FitsMark (expected mark : ℕ) : Type 0 where
  pub present : mark ≢ 0
  pub itself : expected ≢ any_one → mark ≡ expected + 1

-- from `at` on, the window has the marks of the first 64 characters, and its second half is as its first
pub record Shows (window text : List ℕ) (at : ℕ) : Type 0 where
  pub within : at < 64
  pub marks : (place : ℕ) → place < 64 → get_or window (at + place) 0 ≡ mark_at text place
  pub twice : (place : ℕ) → place < 64 → get_or window (place + 64) 0 ≡ get_or window place 0

-- the segment matches at none of the first 64 places whose bit is 0
abbrev pub KeepsPlaces : List ℕ → List ℕ → ℕ → Type 0
KeepsPlaces text segment places =
    (place : ℕ) → place < 64 → bit_at places place ≡ 0 → (left : List ℕ) → ¬ LeavesAfterPrefix (drop place text) segment left

-- after a `%`, the segment leaves of the rest what it leaves of the whole text
abbrev pub SamePlaces : List ℕ → List ℕ → List ℕ → Type 0
SamePlaces text rest segment =
    (left : List ℕ) → LeavesAfterPrefix text (any_run ∷ segment) left ↔ LeavesAfterPrefix rest (any_run ∷ segment) left
