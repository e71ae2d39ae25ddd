-- The numbers of a tree as one list, and the order of trees.
use Rattle.std.specs.Prelude.{◌≡◌, ℕ, ⊤, Bool, true, List, [], ◌∷◌, ◌++◌}
use Rattle.std.specs.Ordering.{nat_cmp, is_lt}
use Rattle.std.specs.Cmp.Lexicographic.{slice_cmp}
use Rattle.match_bindings.specs.BindTree.{BindTree, One, Pair, First, Second, Empty, Single, More, greatest}

-- the numbers from left to right, with 0 before the part of a First and 2 ^ 64 - 1 before that of a Second
abbrev pub flat : BindTree → List ℕ
flat (One n) = n ∷ []
flat (Pair a b) = flat a ++ flat b
flat (First a) = 0 ∷ flat a
flat (Second a) = 18446744073709551615 ∷ flat a
flat Empty = []
flat (Single a) = flat a
flat (More m a) = flat m ++ flat a

-- the sort key of a tree: its greatest number, then its flat list
abbrev pub rank : BindTree → List ℕ
rank x = greatest x ∷ flat x

abbrev pub comes_before : BindTree → BindTree → Bool
comes_before x y = is_lt (slice_cmp nat_cmp (rank x) (rank y))

-- each tree comes before the next
abbrev pub Ascends : List BindTree → Type 0
Ascends [] = ⊤
Ascends (x ∷ []) = ⊤
Ascends (x ∷ y ∷ xs) = (comes_before x y ≡ true) × Ascends (y ∷ xs)
