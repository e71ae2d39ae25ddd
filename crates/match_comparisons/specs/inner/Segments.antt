-- For private clauses: the segments of a LIKE pattern between its `%`, and where they match a text.
use Rattle.std.specs.Prelude.{◌≡◌, ◌≢◌, ◌<◌, ◌≤◌, ℕ, List, ◌∷◌, ◌++◌, length}
use Rattle.match_comparisons.specs.Like.{any_run, IsLike}

-- the character doesn't occur in the list
abbrev pub LacksCharacter : List ℕ → ℕ → Type 0
LacksCharacter list character = (front back : List ℕ) → list ≢ front ++ character ∷ back

-- wherever it occurs, more than `most` elements are before it
abbrev pub OccursAfter : List ℕ → ℕ → ℕ → Type 0
OccursAfter list character most = (front back : List ℕ) → list ≡ front ++ character ∷ back → most < length front

-- a prefix of the text matches the pattern, and this is left after it
abbrev pub LeavesAfterPrefix : List ℕ → List ℕ → List ℕ → Type 0
LeavesAfterPrefix text pattern left = (front : List ℕ) × (text ≡ front ++ left) × IsLike front pattern

-- this is left after the first match of the segment: no other match leaves more
pub record LeavesMost (text segment left : List ℕ) : Type 0 where
  pub leaves : LeavesAfterPrefix text (any_run ∷ segment) left
  pub most : (other : List ℕ) → LeavesAfterPrefix text (any_run ∷ segment) other → length other ≤ length left
