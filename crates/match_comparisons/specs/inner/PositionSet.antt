-- For private clauses: a set of positions.
use Rattle.std.specs.Prelude.{◌↔◌, ℕ, IsTrue, List, Contains}
use Rattle.std.specs.BTreeSet.{contains}
use Rattle.std.specs.Ordering.{nat_cmp}
use Rattle.match_comparisons.specs.declared.position_set.PositionSet.{PositionSet}

-- the position is in the set
abbrev pub IsInPositions : PositionSet → ℕ → Type 0
IsInPositions position_set at = IsTrue (contains nat_cmp position_set.set at)

-- the set has the positions of the list
abbrev pub AreOf : List ℕ → PositionSet → Type 0
AreOf list position_set = (at : ℕ) → IsInPositions position_set at ↔ Contains list at
