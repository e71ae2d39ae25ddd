-- For private clauses: the observation numbers of partial matches, from left to right.
use Rattle.std.specs.Prelude.{ℕ, List, [], ◌∷◌, ◌++◌}
use Rattle.std.specs.List.{flat_map}
use Rattle.match_bindings.specs.BindTree.{BindTree, One, Pair, First, Second, Empty, Single, More}
use Rattle.match_pruning.specs.PartialMatchTree.{PartialMatchTree}

abbrev pub numbers : BindTree → List ℕ
numbers (One n) = n ∷ []
numbers (Pair a b) = numbers a ++ numbers b
numbers (First a) = numbers a
numbers (Second a) = numbers a
numbers Empty = []
numbers (Single a) = numbers a
numbers (More m a) = numbers m ++ numbers a

-- the numbers of one store
abbrev pub store_numbers : List PartialMatchTree → List ℕ
store_numbers held = flat_map (λ h. numbers h.tree) held

-- the numbers of all stores
abbrev pub all_numbers : List (List PartialMatchTree) → List ℕ
all_numbers contents = flat_map store_numbers contents
