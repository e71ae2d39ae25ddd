-- The rows that a matcher keeps: those of its stored partial matches.
use Rattle.std.specs.Prelude.{◌≡◌, ◌↔◌, ℕ, Bool, true, false, ◌||◌, List, [], ◌∷◌}
use Rattle.std.specs.List.{Contains}
use Rattle.std.specs.List.Sorted.{IsStrictlyIncreasing}
use Rattle.match_bindings.specs.BindTree.{has}
use Rattle.match_pruning.specs.PartialMatchTree.{PartialMatchTree}

-- whether one of the partial matches has the number
abbrev pub any_has : ℕ → List PartialMatchTree → Bool
any_has n [] = false
any_has n (h ∷ held) = has n h.tree || any_has n held

-- whether one in some store has it
abbrev pub is_kept : ℕ → List (List PartialMatchTree) → Bool
is_kept n [] = false
is_kept n (held ∷ contents) = any_has n held || is_kept n contents

-- these numbers, ascending, each once
pub record AreKept (contents : List (List PartialMatchTree)) (numbers : List ℕ) : Type 0 where
  pub ascends : IsStrictlyIncreasing numbers
  pub each : (n : ℕ) → Contains numbers n ↔ (is_kept n contents ≡ true)
