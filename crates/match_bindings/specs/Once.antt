-- How often a tree occurs in a list.
use Rattle.std.specs.Prelude.{◌≡◌, ℕ, ◌+◌, Bool, true, false, ◌&&◌, nat_eq, List, [], ◌∷◌}
use Rattle.match_bindings.specs.BindTree.{BindTree, One, Pair, First, Second, Empty, Single, More}

abbrev pub bit : Bool → ℕ
bit true = 1
bit false = 0

-- whether two trees are equal
abbrev pub is_same_tree : BindTree → BindTree → Bool
is_same_tree (One m) (One n) = nat_eq m n
is_same_tree (Pair a b) (Pair c d) = is_same_tree a c && is_same_tree b d
is_same_tree (First a) (First b) = is_same_tree a b
is_same_tree (Second a) (Second b) = is_same_tree a b
is_same_tree Empty Empty = true
is_same_tree (Single a) (Single b) = is_same_tree a b
is_same_tree (More m a) (More n b) = is_same_tree m n && is_same_tree a b
is_same_tree _ _ = false

abbrev pub count : BindTree → List BindTree → ℕ
count x [] = 0
count x (y ∷ ys) = bit (is_same_tree x y) + count x ys

-- each tree that passes occurs in the list once, and no other
abbrev pub Exactly : (BindTree → Bool) → List BindTree → Type 0
Exactly f xs = (x : BindTree) → count x xs ≡ bit (f x)
